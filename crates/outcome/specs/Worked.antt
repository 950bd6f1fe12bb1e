-- A group worked by hand: two tied tiers with capacities 60 and 40 and a want of 50.
use Rattle.std.specs.Prelude.{◌≡◌, ℕ, true, cond, [], ◌∷◌, ◌==◌}
use Rattle.lawful.specs.Awards.{Award, AwardSet, zero_award}
use Rattle.lawful.specs.Lawful.{capped}
use Rattle.market.specs.Maxima.{place_count, max_figure}
use Rattle.outcome.specs.Groups.{work_tiers}

-- the award after the group, the tiers at the places 0 and 4
abbrev pub tied : AwardSet → Award
tied A = work_tiers A 50 (0 ∷ 4 ∷ []) (60 ∷ 40 ∷ []) zero_award

abbrev pub everything : AwardSet
everything x = true

-- a cap of 10 at place 0, 20,000 elsewhere
abbrev pub cap_of_ten : ℕ → ℕ
cap_of_ten p = cond (p == 0) 10 max_figure

-- Without a screen they take 30 and 20; with a cap of 10 on the first, 10 and 40.
abbrev pub WorkedTies : Type 0
WorkedTies =
    (tied everything 0 ≡ 30) × (tied everything 4 ≡ 20)
    × (tied (capped place_count cap_of_ten everything) 0 ≡ 10) × (tied (capped place_count cap_of_ten everything) 4 ≡ 40)

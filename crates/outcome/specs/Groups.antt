-- How the tiers of one group take, in two rounds, under what is permitted on top of the award so far.
use Rattle.std.specs.Prelude.{ℕ, zero, suc, ◌-◌, min, cond, ◌&&◌, List, [], ◌∷◌, map, sum, ◌==◌, nat_le, nat_lt}
use Rattle.lawful.specs.Sums.{sum_to}
use Rattle.lawful.specs.Awards.{Award, AwardSet, raise}
use Rattle.lawful.specs.Lawful.{above}
use Rattle.market.specs.Maxima.{place_count}
use Rattle.market.specs.Sharing.{shares_of}
use Rattle.screen.specs.Meaning.{room_at}
use Rattle.outcome.specs.Entries.{Entries, level}

-- the total of an award
abbrev pub total : Award → ℕ
total z = sum_to place_count z

-- the places of the group at a level, rising: of n places from p on, those with a tier there
unfoldable pub members_from : Entries → ℕ → ℕ → ℕ → List ℕ
members_from e l zero p = []
members_from e l (suc n) p = cond (nat_lt 0 (e.capacity p) && level e p == l) (p ∷ members_from e l n (suc p)) (members_from e l n (suc p))

abbrev pub members : Entries → ℕ → List ℕ
members e l = members_from e l place_count 0

-- A tier's target is its capacity if the group's capacities do not exceed the want, else its share of the want.
abbrev pub targets : ℕ → List ℕ → List ℕ
targets want capacities = cond (nat_le (sum capacities) want) capacities (shares_of want capacities)

-- what can still be taken at a place on top of the award z
abbrev pub room_over : AwardSet → Award → ℕ → ℕ
room_over A z p = room_at (above z A) p

-- In place order each tier takes the lesser of target and room.
unfoldable pub first_round : AwardSet → List ℕ → List ℕ → Award → Award
first_round A [] ts z = z
first_round A (p ∷ ps) [] z = z
first_round A (p ∷ ps) (t ∷ ts) z = first_round A ps ts (raise z p (min t (room_over A z p)))

-- In a second round each takes as much more as want, capacity and room allow. The want is used up once the award's total is the goal.
unfoldable pub second_round : AwardSet → ℕ → List ℕ → List ℕ → Award → Award
second_round A goal [] cs z = z
second_round A goal (p ∷ ps) [] z = z
second_round A goal (p ∷ ps) (c ∷ cs) z = second_round A goal ps cs (raise z p (min (goal - total z) (min (c - z p) (room_over A z p))))

-- the award after the two rounds of a group, by the places and capacities of its tiers
abbrev pub work_tiers : AwardSet → ℕ → List ℕ → List ℕ → Award → Award
work_tiers A goal ps cs z = second_round A goal ps cs (first_round A ps (targets (goal - total z) cs) z)

-- the award after the group at the level l
abbrev pub work_group : AwardSet → Entries → ℕ → ℕ → Award → Award
work_group A e goal l z = work_tiers A goal (members e l) (map e.capacity (members e l)) z

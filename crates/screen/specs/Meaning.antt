-- What the calls of a screen answer and leave, by the set of awards that is open.
use Rattle.std.specs.Prelude.{ℕ, Bool, cond, not, List, [], ◌∷◌, Some, None, Ok, Err, Option, Result, ◌==◌, nat_le, nat_lt, slice_index_or, slice_set}
use Rattle.lawful.specs.Sums.{greatest}
use Rattle.lawful.specs.Awards.{AwardSet, zero_award, raise}
use Rattle.market.specs.Maxima.{unit_count, place_count, max_figure, max_limit}
use Rattle.market.specs.Refusals.{refusal_of, screen_refusal}
use Rattle.market.specs.Rows.{Row, row}
use Rattle.market.specs.declared.refusals.Refusal.{Refusal}
use Rattle.market.specs.declared.refusals.ScreenRefusal.{ScreenRefusal}

-- What was set in a screen, as tables of numbers: those of a layer before those of the screen below it.
abbrev pub Settings : Type 0
Settings = List (List ℕ)

-- the settings with one number of one table changed
abbrev pub with_setting : Settings → ℕ → ℕ → ℕ → Settings
with_setting tables t k number = slice_set tables t (slice_set (slice_index_or tables t []) k number)

-- the largest quantity up to 20,000 that the set permits at the place alone, and 0 where there is no such place
abbrev pub room_at : AwardSet → ℕ → ℕ
room_at A p = cond (nat_lt p place_count) (greatest max_figure (λ q. A (raise zero_award p q))) 0

-- the awards that are in the set with the quantity q added at the place p
abbrev pub after_take : AwardSet → ℕ → ℕ → AwardSet
after_take A p q x = A (raise x p q)

-- why a take is declined
abbrev pub take_rows : AwardSet → ℕ → ℕ → List Row
take_rows A p q = row (nat_le place_count p) (refusal_of 4 3 p) ∷ row (nat_lt (room_at A p) q) (refusal_of 15 3 p) ∷ []

-- why a limit of one of `nodes` grids or corridors is not set
abbrev pub limit_rows : ℕ → ℕ → ℕ → List Row
limit_rows nodes node limit = row (nat_le nodes node) (refusal_of 4 3 node) ∷ row (nat_lt max_limit limit) (refusal_of 5 3 node) ∷ []

-- why a unit is not hung
abbrev pub hang_rows : ℕ → ℕ → ℕ → List Row
hang_rows nodes unit node = row (nat_le unit_count unit) (refusal_of 4 3 unit) ∷ row (nat_le nodes node) (refusal_of 4 3 node) ∷ []

-- a parent is of lower number, and that of corridor 0 is 0
abbrev pub not_lower : ℕ → ℕ → Bool
not_lower node parent = cond (node == 0) (not (parent == 0)) (nat_le node parent)

-- why a parent is not set
abbrev pub parent_rows : ℕ → ℕ → ℕ → List Row
parent_rows nodes node parent =
    row (nat_le nodes node) (refusal_of 4 3 node) ∷ row (nat_le nodes parent) (refusal_of 4 3 parent) ∷ row (not_lower node parent) (refusal_of 16 3 node) ∷ []

-- why a cap is not set
abbrev pub cap_rows : ℕ → ℕ → List Row
cap_rows place quantity = row (nat_le place_count place) (refusal_of 4 3 place) ∷ row (nat_lt max_figure quantity) (refusal_of 5 3 place) ∷ []

-- why a ceiling is not set
abbrev pub ceiling_rows : ℕ → List Row
ceiling_rows limit = row (nat_lt max_limit limit) (refusal_of 5 3 0) ∷ []

-- what a call of a screen answered
abbrev pub answer_of : {X : Type 0} → Result X ScreenRefusal → Option Refusal
answer_of (Ok x) = None
answer_of (Err e) = Some (screen_refusal e)

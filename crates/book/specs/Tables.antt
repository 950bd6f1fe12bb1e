-- Why a call is declined: the table of refusals, by what the day shows and the call. The topmost row that applies is given.
use Rattle.std.specs.Prelude.{ℕ, Bool, true, false, not, ◌&&◌, ◌||◌, List, [], ◌∷◌, ◌++◌, is_some, Option, ◌==◌, nat_le, nat_lt}
use Rattle.market.specs.Entries.{offer_rows, bid_rows, tariff_rows}
use Rattle.market.specs.Maxima.{unit_count, branch_dispatch, point_count, max_entries}
use Rattle.market.specs.Refusals.{refusal_of}
use Rattle.market.specs.Rows.{Row, row, topmost}
use Rattle.market.specs.declared.refusals.Refusal.{Refusal}
use Rattle.market.specs.declared.entries.RawOffer.{RawOffer}
use Rattle.outcome.specs.Entries.{any_below}
use Rattle.outcome.specs.View.{figure_of}
use Rattle.book.specs.Views.{View, Stage, entering, cleared}
use Rattle.book.specs.Calls.{Call, tariff, offer, withdraw, bid, clear, reopen, post, name_of}

abbrev pub is_cleared : Stage → Bool
is_cleared entering = false
is_cleared (cleared d) = true

-- the calls that only a point being entered takes
abbrev pub wants_entering : Call → Bool
wants_entering (tariff grid fen) = true
wants_entering (offer r) = true
wants_entering (withdraw unit) = true
wants_entering (bid grid price need) = true
wants_entering (clear A laws) = true
wants_entering reopen = false
wants_entering post = false

-- a unit is offered at the point
abbrev pub some_offered : View → Bool
some_offered v = any_below unit_count (λ u. is_some (v.offers u))

-- a unit of this grid is offered
abbrev pub offered_on : Option RawOffer → ℕ → Bool
offered_on o grid = is_some o && figure_of (λ r. r.grid) o == grid

abbrev pub some_offered_on : View → ℕ → Bool
some_offered_on v grid = any_below unit_count (λ u. offered_on (v.offers u) grid)

-- rows 1 to 3, by the state of the day and the point
abbrev pub state_rows : View → Call → List Row
state_rows v c =
    row (nat_le point_count v.posted) (refusal_of 1 2 (name_of c))
    ∷ row (is_cleared v.stage && wants_entering c) (refusal_of 2 2 (name_of c))
    ∷ row (not (is_cleared v.stage) && not (wants_entering c)) (refusal_of 3 2 0)
    ∷ []

-- rows 2 and 3, by whether the point is cleared, whether the call wants it being entered, and what the call names
abbrev pub point_rows : Bool → Bool → ℕ → List Row
point_rows is_cleared wants_entering name =
    row (is_cleared && wants_entering) (refusal_of 2 2 name) ∷ row (not is_cleared && not wants_entering) (refusal_of 3 2 0) ∷ []

-- rows 1 to 3, by the points posted and the state of the point
abbrev pub gate_rows : ℕ → Bool → Bool → ℕ → List Row
gate_rows posted is_cleared wants_entering name = row (nat_le point_count posted) (refusal_of 1 2 name) ∷ point_rows is_cleared wants_entering name

-- rows 4 to 7, by the call's own figures
abbrev pub figure_rows : Call → List Row
figure_rows (tariff grid fen) = tariff_rows grid fen
figure_rows (offer r) = offer_rows r
figure_rows (withdraw unit) = row (nat_le unit_count unit) (refusal_of 4 2 unit) ∷ []
figure_rows (bid grid price need) = bid_rows grid price need
figure_rows (clear A laws) = []
figure_rows reopen = []
figure_rows post = []

-- as many entries as a day can count
abbrev pub full_row : View → ℕ → Row
full_row v name = row (nat_le max_entries v.entered) (refusal_of 17 2 name)

-- rows 8 to 17, by the call and what is entered
abbrev pub book_rows : View → Call → List Row
book_rows v (tariff grid fen) = row (some_offered v || nat_lt 0 v.posted) (refusal_of 9 2 grid) ∷ []
book_rows v (offer r) = row (is_some (v.bids r.grid)) (refusal_of 8 2 r.unit) ∷ full_row v r.unit ∷ []
book_rows v (withdraw unit) = row (not (is_some (v.offers unit))) (refusal_of 10 2 unit) ∷ full_row v unit ∷ []
book_rows v (bid grid price need) =
    row (nat_lt 0 need && (grid == branch_dispatch || some_offered_on v grid)) (refusal_of 8 2 grid) ∷ full_row v grid ∷ []
book_rows v (clear A laws) = []
book_rows v reopen = []
book_rows v post = []

abbrev pub rows_of : View → Call → List Row
rows_of v c = state_rows v c ++ (figure_rows c ++ book_rows v c)

-- what the call answers where it is declined
abbrev pub refusal : View → Call → Option Refusal
refusal v c = topmost (rows_of v c)

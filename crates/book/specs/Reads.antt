-- What the reads of a running day answer: present at a cleared point, absent otherwise.
use Rattle.std.specs.Prelude.{ℕ, cond, Some, None, Option, nat_lt}
use Rattle.market.specs.Maxima.{grid_count, place_count}
use Rattle.outcome.specs.Entries.{some_bids}
use Rattle.book.specs.Views.{View, Stage, entering, cleared, Declaration, entries_in}

-- a figure of the declaration
abbrev pub read_at : Stage → (Declaration → ℕ) → Option ℕ
read_at entering figure = None
read_at (cleared d) figure = Some (figure d)

-- the award of a place; absent out of range
abbrev pub award_read : View → ℕ → Option ℕ
award_read v place = cond (nat_lt place place_count) (read_at v.stage (λ d. d.award place)) None

-- all that a grid got; absent out of range
abbrev pub share_read : View → ℕ → Option ℕ
share_read v grid = cond (nat_lt grid grid_count) (read_at v.stage (λ d. d.got grid)) None

-- the quantity and the price of the segment at a bid; absent for a price that nobody bids
abbrev pub quantity_read : View → ℕ → Option ℕ
quantity_read v bid = cond (some_bids (entries_in v) bid) (read_at v.stage (λ d. d.quantity bid)) None

abbrev pub price_read : View → ℕ → Option ℕ
price_read v bid = cond (some_bids (entries_in v) bid) (read_at v.stage (λ d. d.price bid)) None

-- What a post adds to the accounts.
use Rattle.std.specs.Prelude.{ℕ, suc, ◌+◌, ◌-◌, ◌*◌, cond, ◌&&◌, ◌==◌}
use Rattle.lawful.specs.Sums.{sum_to}
use Rattle.market.specs.Maxima.{unit_count, grid_count, bands_of_unit, place_count, max_price}
use Rattle.outcome.specs.Entries.{Entries, some_bids}
use Rattle.outcome.specs.Laws.{in_segment}
use Rattle.outcome.specs.View.{figure_of}
use Rattle.book.specs.Views.{View, Declaration, Money, between_at, entries_in}

-- the price of the segment in which the tier at a place stands; there is at most one
abbrev pub paid_at : Entries → Declaration → ℕ → ℕ
paid_at e d p = sum_to (suc max_price) (λ b. cond (some_bids e b && in_segment e b p) (d.price b) 0)

-- the grid of the unit
abbrev pub grid_of : View → ℕ → ℕ
grid_of v u = figure_of (λ r. r.grid) (v.offers u)

-- A buyer is charged share × price in each segment.
abbrev pub charge_of : Declaration → ℕ → ℕ
charge_of d g = sum_to (suc max_price) (λ b. d.share b g * d.price b)

-- A unit receives award × (price − what lies between), place by place.
abbrev pub receipt_at : View → Declaration → ℕ → ℕ → ℕ
receipt_at v d u band =
    let p = bands_of_unit * u + band in d.award p * (paid_at (entries_in v) d p - between_at v (grid_of v u))

abbrev pub receipt_of : View → Declaration → ℕ → ℕ
receipt_of v d u = sum_to bands_of_unit (receipt_at v d u)

-- what a unit is awarded in all
abbrev pub awarded_to : Declaration → ℕ → ℕ
awarded_to d u = sum_to bands_of_unit (λ band. d.award (bands_of_unit * u + band))

-- A grid receives its units' awards × its tariff.
abbrev pub wires_of : View → Declaration → ℕ → ℕ
wires_of v d g = sum_to unit_count (λ u. cond (grid_of v u == g) (awarded_to d u * v.tariff g) 0)

-- The branch receives all awards × its tariff.
abbrev pub branch_of : View → Declaration → ℕ
branch_of v d = sum_to place_count d.award * v.tariff grid_count

abbrev pub posted_money : View → Declaration → Money
posted_money v d = record {
  charge = λ g. v.money.charge g + charge_of d g;
  unit = λ u. v.money.unit u + receipt_of v d u;
  wires = λ g. v.money.wires g + wires_of v d g;
  branch = v.money.branch + branch_of v d;
}

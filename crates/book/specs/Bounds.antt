-- How much money there can be.
use Rattle.std.specs.Prelude.{◌≡◌, ℕ, ◌+◌, ◌*◌, ◌<◌, ◌≤◌, None}
use Rattle.market.specs.Maxima.{unit_count, grid_count, place_count, bands_of_unit, max_figure}
use Rattle.book.specs.Views.{View, Declaration, between_at, entries_in}
use Rattle.book.specs.Money.{grid_of, paid_at, charge_of, receipt_of, wires_of, branch_of}

-- the most that a post charges, in fortieths of a fen: 16 buyers × 200,000 tenths × 200,000 fen
abbrev pub max_posted : ℕ
max_posted = 640000000000

-- the most that 96 posts charge
abbrev pub max_money : ℕ
max_money = 61440000000000

-- What a post can rely on: awards stand at offered units only, the price covers what lies between, and no account outgrows its width.
pub record Postable (v : View) (d : Declaration) : Type 0 where
  pub awards : (p : ℕ) → p < place_count → d.award p ≤ max_figure
  pub unoffered : (u band : ℕ) → u < unit_count → band < bands_of_unit → v.offers u ≡ None → d.award (bands_of_unit * u + band) ≡ 0
  pub standing : (p : ℕ) → p < place_count → 0 < d.award p → 0 < (entries_in v).capacity p
  pub covered : (u band : ℕ) → u < unit_count → band < bands_of_unit → 0 < d.award (bands_of_unit * u + band) → between_at v (grid_of v u) ≤ paid_at (entries_in v) d (bands_of_unit * u + band)
  pub charges : (g : ℕ) → g < grid_count → v.money.charge g + charge_of d g ≤ max_money
  pub units : (u : ℕ) → u < unit_count → v.money.unit u + receipt_of v d u ≤ max_money
  pub wires : (g : ℕ) → g < grid_count → v.money.wires g + wires_of v d g ≤ max_money
  pub branch : v.money.branch + branch_of v d ≤ max_money

-- What a post goes by: the register, the accounts, and the clearing.
use Rattle.std.specs.Prelude.{◌≡◌, ℕ, ◌≤◌}
use Rattle.market.specs.Maxima.{grid_count}
use Rattle.clearing.specs.declared.points.Cleared.{Cleared}
use Rattle.book.specs.Views.{View, entries_in}
use Rattle.book.specs.Money.{paid_at, charge_of}
use Rattle.day.specs.Amounts.{charged_over, price_over}
use Rattle.day.specs.Shown.{shown_of, point_of, segments_of, declaration_of}
use Rattle.day.specs.declared.ledger.Ledger.{Ledger}
use Rattle.day.specs.declared.register.Register.{Register}
use Rattle.day.specs.declared.state.PointState.TheVariants as state

-- the day as a post sees it
abbrev pub posting : Register → Ledger → View
posting r l = shown_of 0 0 r state.Entering l

-- What is read off the rows of segments is what is declared: the price at each place, and what each grid is charged.
pub record ReadOff (r : Register) (c : Cleared) : Type 0 where
  pub few : c.count ≤ grid_count
  pub prices : (p : ℕ) → price_over (segments_of c) ((entries_in (point_of r)).landed p) ≡ paid_at (entries_in (point_of r)) (declaration_of c) p
  pub charges : (g : ℕ) → charged_over (segments_of c) g ≡ charge_of (declaration_of c) g

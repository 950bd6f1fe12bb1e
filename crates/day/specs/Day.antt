-- What a running day shows, and what a closed one answers.
use Rattle.std.specs.Prelude.{◌≡◌, ℕ, ◌<◌, ◌≤◌, cond, List, length, Some, None, Option, slice_index_or}
use Rattle.lawful.specs.Sums.{sum_to}
use Rattle.lawful.specs.Awards.{Award, AwardSet, zero_award}
use Rattle.lawful.specs.Lawful.{Lawful}
use Rattle.market.specs.Maxima.{grid_count, place_count, max_price}
use Rattle.outcome.specs.Entries.{some_bids}
use Rattle.market.specs.declared.refusals.Refusal.{Refusal}
use Rattle.book.specs.Calls.{Call, clear}
use Rattle.book.specs.Tables.{refusal}
use Rattle.book.specs.Histories.{history, turn}
use Rattle.book.specs.Money.{charge_of, receipt_of, wires_of, branch_of}
use Rattle.book.specs.Posts.{over_posts}
use Rattle.book.specs.Promise.{KeptThroughout, receipts}
use Rattle.book.specs.Views.{View, Stage, entering, cleared, Money, entries_in}
use Rattle.clearing.specs.Declaration.{blank_segment}
use Rattle.clearing.specs.declared.points.Segment.{Segment}
use Rattle.clearing.specs.declared.points.Cleared.{Cleared}
use Rattle.day.specs.Shown.{declaration_of, segments_of, shown_of, money_of}
use Rattle.day.specs.declared.RunningDay.{RunningDay}
use Rattle.day.specs.declared.ClosedDay.{ClosedDay}

abbrev pub shown : RunningDay → View
shown d = shown_of d.posted d.entered d.register d.state d.ledger

-- the money of a closed day
abbrev pub accounts : ClosedDay → Money
accounts d = money_of d.ledger

-- the award of a cleared point
abbrev pub award_at : Stage → Award
award_at entering = zero_award
award_at (cleared d) = d.award

-- the award that a day shows
abbrev pub award_shown : RunningDay → Award
award_shown d = award_at (shown d).stage

-- the stage that is told by what is read of it
abbrev pub stage_read : Option Cleared → Stage
stage_read None = entering
stage_read (Some c) = cleared (declaration_of c)

-- The segments that are read stand in rows that rise by bid.
pub record RisingRows (segments : List Segment) : Type 0 where
  pub few : length segments ≤ grid_count
  pub rising : (i j : ℕ) → i < j → j < length segments → (slice_index_or segments i blank_segment).bid < (slice_index_or segments j blank_segment).bid
  pub small : (k : ℕ) → k < length segments → (slice_index_or segments k blank_segment).bid ≤ max_price

abbrev pub RisingRead : Option Cleared → Type 0
RisingRead None = Unit {0}
RisingRead (Some c) = (c.count ≤ grid_count) × RisingRows (segments_of c)

-- the quantity and the price of the segment at a bid
abbrev pub figures_at : Stage → ℕ → Option (ℕ × ℕ)
figures_at entering bid = None
figures_at (cleared d) bid = Some (d.quantity bid, d.price bid)

-- both are absent unless the point is cleared, and for a price that nobody bids
abbrev pub segment_read : View → ℕ → Option (ℕ × ℕ)
segment_read v bid = cond (some_bids (entries_in v) bid) (figures_at v.stage bid) None

-- A day that the calls h led to closes well: at every moment of them the promise was kept; its accounts are the sums over the accepted
-- posts, and the money charged is exactly what units, grids and branch received.
pub record ClosesWell (h : List Call) (m : Money) : Type 0 where
  pub throughout : KeptThroughout h
  pub charges : (g : ℕ) → m.charge g ≡ over_posts (λ v d. charge_of d g) h
  pub units : (u : ℕ) → m.unit u ≡ over_posts (λ v d. receipt_of v d u) h
  pub wires : (g : ℕ) → m.wires g ≡ over_posts (λ v d. wires_of v d g) h
  pub branch : m.branch ≡ over_posts branch_of h
  pub even : sum_to grid_count m.charge ≡ receipts m

-- some list of calls led to a day that shows this
abbrev pub LedTo : View → Type 0
LedTo v = ∥ ((h : List Call) × (v ≡ history h)) ∥₁

-- A clear through a screen whose fresh set is A: the set is lawful, the answer is the table's, and the day then shows the turn.
abbrev pub Clears : AwardSet → View → Option Refusal → View → Type 0
Clears A before answer after = (laws : Lawful place_count A) × (answer ≡ refusal before (clear A laws)) × (after ≡ turn (clear A laws) before)

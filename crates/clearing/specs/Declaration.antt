-- What a clearing declares, read off its tables, against the outcome that the rules yield.
use Rattle.std.specs.Prelude.{◌≡◌, ℕ, ◌<◌, ◌≤◌, true, get_or, replicate, slice_index, slice_index_or}
use Rattle.market.specs.Maxima.{grid_count}
use Rattle.outcome.specs.Entries.{Entries, some_bids}
use Rattle.outcome.specs.Outcome.{Outcome}
use Rattle.clearing.specs.declared.points.Segment.{Segment}
use Rattle.clearing.specs.declared.points.Cleared.{Cleared}

-- a segment of the table is that of the outcome at its bid
pub record SegmentOf (e : Entries) (o : Outcome) (s : Segment) : Type 0 where
  pub bidden : some_bids e s.bid ≡ true
  pub quantity : s.quantity ≡ o.quantity s.bid
  pub price : s.price ≡ o.price s.bid
  pub shares : (g : ℕ) → g < grid_count → slice_index s.shares g ≡ o.share s.bid g

-- a row of the table of segments that holds none
abbrev pub blank_segment : Segment
blank_segment = record { bid = 0; quantity = 0; price = 0; shares = replicate grid_count 0 }

-- The tables hold exactly the outcome: the award of each place, all that each grid got, and the segments of the bids below n, rising,
-- with blank rows behind them.
pub record Declares (e : Entries) (n : ℕ) (o : Outcome) (c : Cleared) : Type 0 where
  pub awards : (p : ℕ) → slice_index c.awards p ≡ o.award p
  pub got : (g : ℕ) → g < grid_count → slice_index c.got g ≡ o.got g
  pub few : c.count ≤ grid_count
  pub each : (k : ℕ) (d : Segment) → k < c.count → SegmentOf e o (slice_index_or c.segments k d) × ((get_or c.segments k d).bid < n)
  pub all : (b : ℕ) → b < n → some_bids e b ≡ true → (k : ℕ) × (k < c.count) × ((d : Segment) → (get_or c.segments k d).bid ≡ b)
  pub rising : (i j : ℕ) (d : Segment) → i < j → j < c.count → (get_or c.segments i d).bid < (get_or c.segments j d).bid
  pub rest : (k : ℕ) (d : Segment) → c.count ≤ k → k < grid_count → slice_index_or c.segments k d ≡ blank_segment

-- How far a clearing has come: the segments of the bids below a number are worked.
use Rattle.std.specs.Prelude.{ℕ, ◌≤◌, cond, ◌&&◌, List, nat_lt}
use Rattle.lawful.specs.Sums.{sum_to}
use Rattle.lawful.specs.Awards.{AwardSet}
use Rattle.market.specs.Maxima.{grid_count}
use Rattle.market.specs.declared.tiers.Tier.{Tier}
use Rattle.outcome.specs.Entries.{Entries}
use Rattle.outcome.specs.Outcome.{segments_below}
use Rattle.clearing.specs.Sequence.{SequenceFrom}
use Rattle.clearing.specs.Declaration.{Declares}
use Rattle.clearing.specs.declared.points.Cleared.{Cleared}

-- how many grids with a need bid below n
abbrev pub bidders_below : Entries → ℕ → ℕ
bidders_below e n = sum_to grid_count (λ g. cond (nat_lt 0 (e.need g) && nat_lt (e.bid g) n) 1 0)

-- The tables declare the segments of the bids below n, the tiers above those are left, and there are at most as many segments as bidders.
pub record Reached (A : AwardSet) (e : Entries) (n : ℕ) (left : List Tier) (c : Cleared) : Type 0 where
  pub declared : Declares e n (segments_below A e n) c
  pub above : SequenceFrom e (segments_below A e n).next left
  pub counted : c.count ≤ bidders_below e n

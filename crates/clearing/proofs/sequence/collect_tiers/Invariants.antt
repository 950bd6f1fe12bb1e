use Rattle.std.proofs.Common.{◌≡◌, ◌≤◌, length, take}
use Rattle.market.specs.Maxima.{place_count}
use Rattle.clearing.specs.Sequence.{Collected, sellers_of}
use Rattle.clearing.proofs.sequence.collect_tiers.Given as goal

abbrev pub invariant-loop-place : goal.invariant-loop-place
invariant-loop-place l = (l.count ≤ l.place) × (length l.ranked ≡ place_count) × Collected (sellers_of l.tiers) l.place (take l.count l.ranked)

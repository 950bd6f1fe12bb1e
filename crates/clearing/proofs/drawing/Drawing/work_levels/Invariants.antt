use Rattle.std.proofs.Common.{◌≡◌, ℕ, suc, ◌+◌, ◌*◌, ◌≤◌, length}
use Rattle.outcome.specs.Entries.{Entries}
use Rattle.outcome.specs.Groups.{total}
use Rattle.clearing.specs.Awarded.{award_of}
use Rattle.clearing.specs.Sequence.{SequenceFrom}
use Rattle.clearing.proofs.SweptLevels.{WorkedTo}
use Rattle.clearing.proofs.drawing.Drawing.work_levels.Given as goal

-- The award and the price are those of a sweep up to the tiers that are left.
abbrev pub invariant-loop-lowest : goal.invariant-loop-lowest
invariant-loop-lowest g l =
    let before = l.initial.self in
    (l.self.screen.ghost_name ≡ before.screen.ghost_name)
    × (g.S.Screen.settings l.self.screen.now ≡ g.S.Screen.settings before.screen.now)
    × (length l.above ≤ length l.ranked)
    × (l.quantity + total (award_of before.awards) ≡ total (award_of l.self.awards)) × (l.quantity ≤ l.want)
    × ((e : Entries) (low : ℕ) → SequenceFrom e low l.ranked → low ≤ 8 * suc l.bid
    → WorkedTo (g.S.Screen.fresh before.screen.now) e (total (award_of before.awards) + l.want) low (8 * suc l.bid) (award_of before.awards) l.above (award_of l.self.awards) l.price)

abbrev pub decreases-loop-lowest : goal.decreases-loop-lowest
decreases-loop-lowest g l = length l.above

use Rattle.std.proofs.Common.{◌≡◌, ◌-◌, ◌≤◌, length}
use Rattle.outcome.specs.View.{entries_of}
use Rattle.clearing.specs.Progress.{Reached}
use Rattle.clearing.proofs.segments.clear.Given as goal

abbrev pub invariant-loop-bid : goal.invariant-loop-bid
invariant-loop-bid g l =
    let before = l.initial.drawing in
    (l.drawing.screen.ghost_name ≡ before.screen.ghost_name)
    × (g.S.Screen.settings l.drawing.screen.now ≡ g.S.Screen.settings before.screen.now)
    × Reached (g.S.Screen.fresh before.screen.now) (entries_of l.entries) l.from l.above l.cleared
    × (l.cleared.awards ≡ l.drawing.awards)
    × (length l.above ≤ 256)
    × (l.from ≤ 200001)

abbrev pub decreases-loop-bid : goal.decreases-loop-bid
decreases-loop-bid g l = 200001 - l.from

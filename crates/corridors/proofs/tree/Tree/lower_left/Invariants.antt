use Rattle.screen.specs.Numbers.{numbers}
use Rattle.corridors.proofs.Passed.{Lowered}
use Rattle.corridors.proofs.tree.Tree.lower_left.Given as goal

abbrev pub invariant-loop-next : goal.invariant-loop-next
invariant-loop-next l = Lowered l.initial.left l.left (numbers l.self.parents) l.fn.corridor.number l.next.number l.quantity

abbrev pub decreases-loop-next : goal.decreases-loop-next
decreases-loop-next l = l.next.number

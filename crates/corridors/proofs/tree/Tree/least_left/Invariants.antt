use Rattle.screen.specs.Numbers.{numbers}
use Rattle.corridors.proofs.Passed.{Least}
use Rattle.corridors.proofs.tree.Tree.least_left.Given as goal

abbrev pub invariant-loop-at : goal.invariant-loop-at
invariant-loop-at l = Least l.left (numbers l.self.parents) l.fn.corridor.number l.at.number l.least

abbrev pub decreases-loop-at : goal.decreases-loop-at
decreases-loop-at l = l.at.number

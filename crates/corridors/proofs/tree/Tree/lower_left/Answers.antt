use Rattle.std.proofs.Common.{◌≡◌, arith}
use Rattle.screen.specs.Numbers.{numbers}
use Rattle.corridors.proofs.Passed.{Lowered, lowered_begins, lowered_goes_on, lowered_ends}
use Rattle.corridors.proofs.tree.Tree.lower_left.Goals as goal

pub loop-next-init : goal.loop-next-init
loop-next-init c =
    let s = c.args.self.now in
    lowered_begins (numbers s.parents) s.falling c.args.corridor.number c.args.corridor.ok c.args.left.now c.args.quantity c.told-left

pub loop-next-preserved : goal.loop-next-preserved
loop-next-preserved c =
    let s = c.args.self.now in
    rw (c.parent-next.ensures, c.from.ensures)
    (lowered_goes_on (numbers s.parents) s.falling c.args.corridor.number c.args.corridor.ok c.args.left.now c.loop-next.left c.loop-next.next.number c.args.quantity c.requires c.loop-next.invariant c.loop-next-test.true)

pub returns : goal.returns
returns c =
    let s = c.args.self.now in
    let d = c.args.corridor in
    let root : c.loop-next.next.number ≡ 0 = omega arith in
    let w : Lowered c.args.left.now c.loop-next.left (numbers s.parents) d.number 0 c.args.quantity = rw root at c.loop-next.invariant in
    lowered_ends (numbers s.parents) s.falling d.number d.ok c.args.left.now c.loop-next.left c.args.quantity c.requires w

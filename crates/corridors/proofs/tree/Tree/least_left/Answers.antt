use Rattle.std.proofs.Common.{◌≡◌, arith}
use Rattle.screen.specs.Numbers.{numbers}
use Rattle.corridors.proofs.Passed.{Least, least_begins, least_goes_on, least_of_all, most_of_all}
use Rattle.corridors.proofs.tree.Tree.least_left.Goals as goal

pub loop-at-init : goal.loop-at-init
loop-at-init c = least_begins (numbers c.args.self.now.parents) c.args.self.now.falling c.args.corridor.number c.args.corridor.ok c.args.left.now

pub loop-at-preserved : goal.loop-at-preserved
loop-at-preserved c =
    let s = c.args.self.now in
    rw (c.min-least.ensures, c.parent-at.ensures, c.from.ensures)
    (least_goes_on (numbers s.parents) s.falling c.args.corridor.number c.args.corridor.ok c.args.left.now c.loop-at.at.number c.loop-at.least c.loop-at-test.true c.loop-at.invariant)

pub returns : goal.returns
returns c =
    let s = c.args.self.now in
    let d = c.args.corridor in
    let root : c.loop-at.at.number ≡ 0 = omega arith in
    let w : Least c.args.left.now (numbers s.parents) d.number 0 c.loop-at.least = rw root at c.loop-at.invariant in
    rw c.min.ensures
    record {
      few = omega (arith, w.few);
      kept = least_of_all (numbers s.parents) s.falling d.number d.ok c.args.left.now c.loop-at.least w;
      most = most_of_all (numbers s.parents) s.falling d.number d.ok c.args.left.now c.loop-at.least w;
    }

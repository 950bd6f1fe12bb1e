use Rattle.std.proofs.Common.{◌<◌, arith}
use Rattle.grids.specs.Grids.{room_keeps_left, grid_take}
use Rattle.grids.proofs.GridScreenScreen.take.Goals as goal

pub overflow_sub-self : goal.overflow_sub-self
overflow_sub-self c =
    rw c.from.ensures
    (room_keeps_left c.args.self.now c.args.place c.node_of-grid.result.number (omega arith) (rw c.in_ok-at.ensures at c.node_of-grid.ensures)
    c.args.quantity c.node_of-grid.result.ok (omega arith))

pub returns-clause-taken : goal.returns-clause-taken
returns-clause-taken c =
    let s = c.args.self.now in
    let g = c.node_of-grid.result.number in
    let hung = rw c.in_ok-at.ensures at c.node_of-grid.ensures in
    let inside : c.args.place < 256 = omega (arith, c.in_ok-at.ensures, c.in_ok-at.at.ok) in
    λ _. rw c.from.ensures (grid_take s c.args.place g inside hung c.args.quantity (room_keeps_left s c.args.place g inside hung c.args.quantity c.node_of-grid.result.ok (omega arith)))

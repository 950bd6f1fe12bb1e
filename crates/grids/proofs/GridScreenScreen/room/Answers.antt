use Rattle.std.proofs.Common.{sym, ◌∙◌, arith}
use Rattle.grids.specs.Grids.{grid_room}
use Rattle.grids.proofs.GridScreenScreen.room.Goals as goal

pub returns : goal.returns
returns c =
    let s = c.args.self.now in
    c.min.ensures ∙ rw c.from.ensures (sym (grid_room s c.args.place c.node_of-grid.result.number (omega arith) (rw c.in-Ok.ensures at c.node_of-grid.ensures) c.node_of-grid.result.ok))

use Rattle.std.proofs.Common.{◌≤◌, arith}
use Rattle.screen.specs.Meaning.{room_at}
use Rattle.corridors.specs.Rooms.{lowered_is_taken, room_is_left}
use Rattle.corridors.specs.CorridorSets.{hangs_of, parents_of, ontop_of, hung_known}
use Rattle.corridors.proofs.CorridorScreenScreen.take.Goals as goal

pub lower_left-requires : goal.lower_left-requires
lower_left-requires c =
    let s = c.args.self.now in
    let p = c.in_ok-at.at in
    let le : c.args.quantity ≤ room_at (ontop_of s) p.number = rw c.in_ok-at.ensures (omega arith) in
    rw c.node_of-corridor.ensures (room_is_left s.corridors.left (hangs_of s) (parents_of s) p.number c.args.quantity p.ok (hung_known s) s.tree.falling le)

pub returns-clause-taken : goal.returns-clause-taken
returns-clause-taken c =
    let s = c.args.self.now in
    let p = c.in_ok-at.at in
    λ _. rw (← c.in_ok-at.ensures)
    (lowered_is_taken s.corridors.left (hangs_of s) (parents_of s) p.number p.ok c.lower_left.new.left c.args.quantity (rw c.node_of-corridor.ensures at c.lower_left.ensures))

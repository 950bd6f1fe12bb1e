use Rattle.corridors.specs.Rooms.{least_is_room}
use Rattle.corridors.specs.CorridorSets.{hangs_of, parents_of, hung_known}
use Rattle.corridors.proofs.CorridorScreenScreen.room.Goals as goal

pub returns : goal.returns
returns c =
    let s = c.args.self.now in
    let told = c.least_left.ensures in
    let hung = c.node_of-corridor.ensures in
    rw (← c.in-Ok.ensures)
    (least_is_room s.corridors.left (hangs_of s) (parents_of s) c.in-Ok.place.number c.in-Ok.place.ok (hung_known s) s.tree.falling c.least_left.result
    told.few (rw hung at told.kept) (rw hung at told.most))

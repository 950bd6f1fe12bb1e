use Rattle.std.proofs.Common.{sym}
use Rattle.screen.specs.Rooms.{open_room}
use Rattle.screen.proofs.OpenScreenScreen.room.Goals as goal

pub returns-then-place-lt-PLACES : goal.returns-then-place-lt-PLACES
returns-then-place-lt-PLACES c = sym (open_room c.args.place c.if-place-lt-PLACES.true)

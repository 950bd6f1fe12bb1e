use Rattle.std.proofs.Common.{arith}
use Rattle.layers.proofs.Lowered.{take_from_caps}
use Rattle.layers.proofs.caps.CapsCut.lower.Goals as goal

pub returns : goal.returns
returns c =
    rw (c.saturating_sub-left.ensures, c.from.ensures, c.from-at.ensures)
    (take_from_caps c.args.self.now.caps c.args.place.number c.args.quantity (omega arith))

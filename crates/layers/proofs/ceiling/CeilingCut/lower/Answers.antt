use Rattle.std.proofs.Common.{arith}
use Rattle.layers.proofs.Lowered.{take_from_ceiling}
use Rattle.layers.proofs.ceiling.CeilingCut.lower.Goals as goal

pub returns : goal.returns
returns c = rw c.saturating_sub-self.ensures (take_from_ceiling c.args.self.now.limit c.args._place.number c.args.quantity (omega arith))

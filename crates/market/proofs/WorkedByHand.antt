-- The cases worked by hand compute.
use Rattle.std.proofs.Common.{refl}
use Rattle.market.specs.Worked.{WorkedCapacities, WorkedShares}

pub worked_capacities : WorkedCapacities
worked_capacities = (refl, refl)

pub worked_shares : WorkedShares
worked_shares = (refl, refl)

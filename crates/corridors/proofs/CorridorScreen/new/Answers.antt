use Rattle.corridors.proofs.TwoCorridors.{worked}
use Rattle.corridors.proofs.CorridorScreen.new.Goals as goal

pub returns-clause-worked : goal.returns-clause-worked
returns-clause-worked c = worked

use Rattle.std.proofs.Common.{None, refl}
use Rattle.day.specs.Shown.{offered, asking}
use Rattle.day.proofs.TableFunctions.{table_constant}
use Rattle.day.proofs.register.Register.remove_entries.Goals as goal

pub returns : goal.returns
returns c = record {
  offers = table_constant offered 64 None None refl;
  bids = table_constant asking 16 None None refl;
  others = refl;
}

use Rattle.std.proofs.Common.{None, refl, arith}
use Rattle.market.specs.declared.figures.Tariff.{Tariff}
use Rattle.day.specs.Shown.{offered, asking}
use Rattle.day.proofs.TableFunctions.{figures_constant, table_constant}
use Rattle.day.proofs.register.Register.empty.Goals as goal

pub returns : goal.returns
returns c = record {
  tariffs = figures_constant (λ (t : Tariff). t.fen) 17 (record { fen = 0; ok = omega arith }) 0 refl;
  offers = table_constant offered 64 None None refl;
  bids = table_constant asking 16 None None refl;
}

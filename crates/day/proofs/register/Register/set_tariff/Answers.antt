use Rattle.std.proofs.Common.{refl, arith}
use Rattle.day.proofs.TableFunctions.{figures_set}
use Rattle.day.proofs.register.Register.set_tariff.Goals as goal

pub returns : goal.returns
returns c = record { tariffs = figures_set (λ t. t.fen) c.args.self.now.tariffs c.args.grid c.args.tariff 0 (omega arith); others = (refl, refl) }

use Rattle.std.proofs.Common.{rules}
use Rattle.day.proofs.Charges.{price_found}
use Rattle.day.proofs.settlement.price_over.Goals as goal

pub returns : goal.returns
returns c = search (rules, price_found)

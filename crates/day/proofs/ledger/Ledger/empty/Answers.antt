use Rattle.day.proofs.AccountTables.{ledger_none}
use Rattle.day.proofs.ledger.Ledger.empty.Goals as goal

pub returns : goal.returns
returns c = ledger_none

use Rattle.std.proofs.Common.{◌+◌, sym, ap, ◌∙◌, arith}
use Rattle.std.proofs.lemmas.List.{get_or-map}
use Rattle.day.specs.Shown.{account_at}
use Rattle.day.proofs.AccountTables.{account_set}
use Rattle.day.proofs.ledger.Accounts.raise.Goals as goal

pub returns : goal.returns
returns g c =
    let table = c.args.self.now in
    let was = get_or-map (λ a. a.fortieths) table.rows c.args.number (record { fortieths = 0 }) 0 (omega arith) in
    account_set table c.args.number (account_at table c.args.number + c.args.by) c.raise.new.self (omega arith) (c.raise.ensures ∙ ap (λ n. n + c.args.by) (sym was))

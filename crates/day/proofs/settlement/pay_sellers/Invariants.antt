use Rattle.std.proofs.Common.{◌≡◌}
use Rattle.day.specs.Posting.{posting}
use Rattle.day.specs.Shown.{account_at, declaration_of}
use Rattle.day.proofs.Postings.{Paid}
use Rattle.day.proofs.settlement.pay_sellers.Given as goal

abbrev pub invariant-loop-unit : goal.invariant-loop-unit
invariant-loop-unit l =
    Paid (posting l.register l.initial.ledger) (declaration_of l.cleared) l.unit (account_at l.ledger.units) (account_at l.ledger.wires) l.ledger.branch.fortieths
    × (l.ledger.charges ≡ l.initial.ledger.charges)

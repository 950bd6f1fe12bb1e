use Rattle.day.specs.Amounts.{charged_over}
use Rattle.day.specs.Shown.{account_at}
use Rattle.day.proofs.Raised.{Raised}
use Rattle.day.proofs.settlement.charge_buyers.Given as goal

abbrev pub invariant-loop-grid : goal.invariant-loop-grid
invariant-loop-grid l = Raised (account_at l.initial.charges) (charged_over l.segments) l.grid (account_at l.charges)

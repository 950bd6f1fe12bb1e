use Rattle.std.proofs.Common.{◌+◌, ap, ◌∙◌, lit<, arith}
use Rattle.outcome.specs.Outcome.{at}
use Rattle.day.specs.Amounts.{charged_over}
use Rattle.day.specs.Shown.{account_at}
use Rattle.day.proofs.Charges.{charged_beyond}
use Rattle.day.proofs.Raised.{raised_none, raised_next, raised_more, raised_all}
use Rattle.day.proofs.settlement.charge_buyers.Goals as goal

pub charge_over-requires : goal.charge_over-requires
charge_over-requires c = record {
  known = c.loop-grid-test.true;
  fits = omega (arith, c.requires c.loop-grid.grid c.loop-grid-test.true);
}

pub raise-requires : goal.raise-requires
raise-requires c =
    let g = c.loop-grid.grid in
    let here = raised_next (account_at c.args.charges.now) (charged_over c.args.segments.now) g (account_at c.loop-grid.charges) c.loop-grid.invariant in
    (lit< tt, (c.loop-grid-test.true, omega (arith, here, c.charge_over.ensures, c.requires g c.loop-grid-test.true)))

pub loop-grid-init : goal.loop-grid-init
loop-grid-init c = raised_none (account_at c.args.charges.now) (charged_over c.args.segments.now)

pub loop-grid-preserved : goal.loop-grid-preserved
loop-grid-preserved c =
    let g = c.loop-grid.grid in
    let before = account_at c.loop-grid.charges in
    raised_more (account_at c.args.charges.now) (charged_over c.args.segments.now) g before c.loop-grid.invariant (account_at c.raise.new.self)
    (c.raise.ensures ∙ ap (λ n. at g (before g + n) before) c.charge_over.ensures)

pub returns : goal.returns
returns c =
    raised_all (account_at c.args.charges.now) (charged_over c.args.segments.now) c.loop-grid.grid (account_at c.loop-grid.charges) c.loop-grid.invariant
    (λ k from. charged_beyond c.args.segments.now k (omega arith))

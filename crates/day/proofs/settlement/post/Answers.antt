use Rattle.std.proofs.Common.{arith, ap}
use Rattle.day.specs.Posting.{posting}
use Rattle.day.specs.Shown.{account_at, declaration_of}
use Rattle.day.proofs.Postings.{posted_money_lem}
use Rattle.day.specs.Amounts.{charged_over}
use Rattle.day.proofs.settlement.post.Goals as goal

pub charge_buyers-requires : goal.charge_buyers-requires
charge_buyers-requires c g l =
    omega (arith, ap (λ xs. account_at xs g) c.pay_sellers.ensures.charges, ap (λ ss. charged_over ss g) c.segments.ensures, c.requires.read.charges g, c.requires.postable.charges g l)

pub returns : goal.returns
returns c =
    let paid = c.pay_sellers.ensures in
    posted_money_lem (posting c.args.register.now c.args.ledger.now) (declaration_of c.args.cleared.now) c.pay_sellers.new.ledger c.charge_buyers.new.charges
    (λ g. omega (arith, c.charge_buyers.ensures g, ap (λ xs. account_at xs g) paid.charges, ap (λ ss. charged_over ss g) c.segments.ensures, c.requires.read.charges g))
    paid.units
    paid.wires
    paid.branch

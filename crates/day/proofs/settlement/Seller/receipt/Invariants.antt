use Rattle.day.specs.Amounts.{received_in}
use Rattle.day.proofs.Receipts.{Left}
use Rattle.day.proofs.settlement.Seller.receipt.Given as goal

abbrev pub invariant-loop-award : goal.invariant-loop-award
invariant-loop-award l =
    Left l.self.charges l.self.segments.now (received_in l.self.charges l.self.segments.now l.self.awards.now l.self.offers.now)
    l.all l.award-iterator.a.rest.now l.award-iterator.b.rest.now

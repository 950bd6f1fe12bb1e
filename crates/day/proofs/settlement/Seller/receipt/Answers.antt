use Rattle.std.proofs.Common.{inl, inr, ◌∙◌}
use Rattle.day.specs.Amounts.{received_in}
use Rattle.day.proofs.Receipts.{covers, left_more, left_none}
use Rattle.day.proofs.settlement.Seller.receipt.Goals as goal

pub receipt_in-all-requires : goal.receipt_in-all-requires
receipt_in-all-requires c =
    let s = c.args.self.now in
    let step = c.in-Some.ensures.steps in
    covers s.charges s.segments.now (received_in s.charges s.segments.now s.awards.now s.offers.now)
    c.loop-award.all c.in-Some.field-0-0.now c.fen-landed.result c.deducted-between.result c.in-Some.offer.now _ _ _ _
    c.loop-award.invariant step.0 step.1 (c.fen-landed.ensures ∙ c.land.ensures) c.deducted-between.ensures

pub loop-award-preserved : goal.loop-award-preserved
loop-award-preserved c =
    let s = c.args.self.now in
    let step = c.in-Some.ensures.steps in
    left_more s.charges s.segments.now (received_in s.charges s.segments.now s.awards.now s.offers.now)
    c.loop-award.all c.in-Some.field-0-0.now c.fen-landed.result c.deducted-between.result c.in-Some.offer.now _ _ _ _
    c.loop-award.invariant step.0 step.1 (c.fen-landed.ensures ∙ c.land.ensures) c.deducted-between.ensures
    c.receipt_in-all.result c.receipt_in-all.ensures

pub returns : goal.returns
returns c =
    let s = c.args.self.now in
    left_none s.charges s.segments.now (received_in s.charges s.segments.now s.awards.now s.offers.now)
    c.loop-award.all c.loop-award.award-iterator.a.rest.now c.loop-award.award-iterator.b.rest.now c.loop-award.invariant
    (elim c.in-None.ensures.steps [ inl e ↦ inl e.1.0 | inr e ↦ inr e.1.0 ])

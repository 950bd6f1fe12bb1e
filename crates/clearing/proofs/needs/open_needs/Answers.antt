use Rattle.std.proofs.Common.{get_or, None, sum, ap, rules, arith}
use Rattle.clearing.specs.Awarded.{award_of}
use Rattle.clearing.specs.Sequence.{buyers_of, open_need}
use Rattle.clearing.proofs.OpenNeeds.{claims_made, claims_within}
use Rattle.clearing.proofs.Ranges.{need_within}
use Rattle.clearing.proofs.Tables.{made_at}
use Rattle.clearing.proofs.needs.open_needs.Goals as goal

pub returns : goal.returns
returns c =
    let made = c.from_fn.ensures.items in
    let bids = c.args.bids.now in
    let got = award_of c.args.got.now in
    let wants = c.from_fn.result in
    let b = c.args.bid in
    let claims = claims_made (buyers_of bids) got b wants made.long
    (λ k l. made_at _ _ (λ i. open_need (get_or bids i None) (got i) b) wants 16 (λ i x q l k. search rules) 0 16 (omega arith) made.each k (omega arith) (omega arith)) in
    record { wants = claims; bound = omega (arith, ap sum claims, claims_within (buyers_of bids) got b 200000 (λ g. need_within (get_or bids g None))) }

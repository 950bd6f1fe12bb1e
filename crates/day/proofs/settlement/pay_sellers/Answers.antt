use Rattle.std.proofs.Common.{◌≡◌, ℕ, ◌+◌, ◌<◌, length, List, get_or, None, Some, Option, sym, refl, ◌∙◌, ap, subst, arith, rules}
use Rattle.std.proofs.lemmas.List.{get_or_default, get_or_past}
use Rattle.market.specs.declared.entries.UnitOffer.{UnitOffer}
use Rattle.day.specs.Posting.{posting}
use Rattle.day.specs.Shown.{account_at, declaration_of}
use Rattle.day.specs.declared.ledger.Ledger.{Ledger}
use Rattle.day.proofs.Postings.{Paid, paid_none, paid_nothing, paid_all, unoffered_none, offered_covered, offered_small, offered_fits_alone, offered_fits, offered_paid}
use Rattle.day.proofs.settlement.pay_sellers.Goals as goal
use Rattle.day.proofs.settlement.pay_sellers.Goals.{in-Some, in_default}

-- What stands in a slot of the offers stands in the register.
slot_is :
    (offers slots : List (Option UnitOffer)) (u : ℕ) (slot o : Option UnitOffer) → slots ≡ offers → slot ≡ get_or slots u slot → slot ≡ o → u < length slots
    → get_or offers u None ≡ o
slot_is offers slots u slot o same there is within = ap (λ xs. get_or xs u None) (sym same) ∙ get_or_default slots u None slot within ∙ sym there ∙ is

pub invariant_of-seller : goal.invariant_of-seller
invariant_of-seller c =
    let r = c.args.register.now in
    let l = c.args.ledger.now in
    let cleared = c.args.cleared.now in
    let u = c.loop-unit.unit in
    let o = c.in-Some.offer in
    let told = c.charges-charges.ensures in
    let places : length cleared.awards ≡ 256 = search rules in
    let within : u < 64 = search rules in
    let stands = slot_is r.offers c.offers-slot-items.result.now u c.slot-item.result (Some o) c.offers-slot-items.ensures c.slot-item.is c.in-Some.is c.loop-unit-test.true in
    record {
      covered = offered_covered r l cleared c.segments-segments.result.now u o c.charges-charges.result c.requires.read c.segments-segments.ensures stands told places c.offers_in.result.now c.offers_in.ensures.prices c.offers_in.ensures.bands within c.requires.postable;
      small = offered_small r l cleared c.segments-segments.result.now u o c.charges-charges.result c.requires.read c.segments-segments.ensures stands told places c.offers_in.result.now c.offers_in.ensures.prices c.offers_in.ensures.bands within c.requires.postable;
      fits = offered_fits_alone r l cleared c.segments-segments.result.now u o c.charges-charges.result c.requires.read c.segments-segments.ensures stands told places c.offers_in.result.now c.offers_in.ensures.prices c.offers_in.ensures.bands within c.requires.postable;
    }

pub loop-unit-init : goal.loop-unit-init
loop-unit-init c = (paid_none (posting c.args.register.now c.args.ledger.now) (declaration_of c.args.cleared.now), refl)

pub pay-requires : goal.pay-requires
pay-requires c =
    let r = c.args.register.now in
    let l = c.args.ledger.now in
    let cleared = c.args.cleared.now in
    let u = c.loop-unit.unit in
    let o = c.in-Some.offer in
    let told = c.charges-charges.ensures in
    let places : length cleared.awards ≡ 256 = search rules in
    let within : u < 64 = search rules in
    let stands = slot_is r.offers c.offers-slot-items.result.now u c.slot-item.result (Some o) c.offers-slot-items.ensures c.slot-item.is c.in-Some.is c.loop-unit-test.true in
    let fit =
    offered_fits r l cleared c.segments-segments.result.now u o c.charges-charges.result c.requires.read c.segments-segments.ensures stands told places c.offers_in.result.now c.offers_in.ensures.prices c.offers_in.ensures.bands within c.requires.postable
    (account_at c.loop-unit.ledger.units) (account_at c.loop-unit.ledger.wires) c.loop-unit.ledger.branch.fortieths c.loop-unit.invariant.0 in
    record { known = within; receipt = fit.0; wires = fit.1; branch = fit.2 }

pub loop-unit-preserved : goal.loop-unit-preserved
loop-unit-preserved c =
    let r = c.args.register.now in
    let l = c.args.ledger.now in
    let cleared = c.args.cleared.now in
    let v = posting r l in
    let d = declaration_of cleared in
    let u = c.loop-unit.unit in
    let units = account_at c.loop-unit.ledger.units in
    let wires = account_at c.loop-unit.ledger.wires in
    let branch = c.loop-unit.ledger.branch.fortieths in
    let places : length cleared.awards ≡ 256 = search rules in
    let within : u < 64 = search rules in
    let done = λ (a : Ledger). Paid v d (u + 1) (account_at a.units) (account_at a.wires) a.branch.fortieths × (a.charges ≡ l.charges) in
    elim c.match-slot.branch [
      | in-Some w ↦
          let told = w.charges-charges.ensures in
          let stands = slot_is r.offers c.offers-slot-items.result.now u c.slot-item.result (Some w.in-Some.offer) c.offers-slot-items.ensures c.slot-item.is w.in-Some.is c.loop-unit-test.true in
          let paid = w.pay.ensures in
          subst done (sym w.ledger-is) (
            offered_paid r l cleared c.segments-segments.result.now u w.in-Some.offer w.charges-charges.result c.requires.read c.segments-segments.ensures stands told places w.offers_in.result.now w.offers_in.ensures.prices w.offers_in.ensures.bands within c.requires.postable
                units wires branch c.loop-unit.invariant.0
                (account_at w.pay.new.ledger.units) (account_at w.pay.new.ledger.wires) w.pay.new.ledger.branch.fortieths
                paid.units paid.wires paid.branch,
            paid.charges ∙ c.loop-unit.invariant.1,
          )
      | in_default w ↦
          let absent = slot_is r.offers c.offers-slot-items.result.now u c.slot-item.result None c.offers-slot-items.ensures c.slot-item.is w.in_default.is c.loop-unit-test.true in
          subst done (sym w.ledger-is) (
            paid_nothing v d u units wires branch c.loop-unit.invariant.0 (unoffered_none r l d c.requires.postable u within absent),
            c.loop-unit.invariant.1,
          )
    ]

pub returns : goal.returns
returns c =
    let v = posting c.args.register.now c.args.ledger.now in
    let cleared = c.args.cleared.now in
    let units = account_at c.loop-unit.ledger.units in
    let wires = account_at c.loop-unit.ledger.wires in
    let branch = c.loop-unit.ledger.branch.fortieths in
    let last : c.loop-unit.unit ≡ 64 = search rules in
    let places : length cleared.awards ≡ 256 = search rules in
    let all =
    paid_all v (declaration_of cleared) units wires branch (subst (λ n. Paid v (declaration_of cleared) n units wires branch) last c.loop-unit.invariant.0)
    (λ p beyond. get_or_past cleared.awards p 0 (omega arith)) in
    record {
      units = all.0;
      wires = all.1;
      branch = all.2;
      charges = c.loop-unit.invariant.1;
    }

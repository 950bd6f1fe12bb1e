-- What is entered at a point was accepted, and so is within its maxima.
use Rattle.std.proofs.Common.{◌≡◌, ℕ, ◌<◌, ◌≤◌, true, eqb, ltb, ◌⊎◌, List, [], ◌∷◌, get_or, is_some, Some, None, Option, sym, refl, ap, ◌∙◌, subst, inl, inr, arith}
use Rattle.std.proofs.lemmas.Bool.{cases_Bool, cases_eq, cond-true, cond-false, or_parts, not-false, leb-false, ltb-false, eqb-false}
use Rattle.market.specs.Classes.{class_at}
use Rattle.market.specs.Entries.{offer_rows, bid_rows, any_above, figures_in, listed}
use Rattle.market.specs.Rows.{topmost}
use Rattle.market.specs.declared.entries.RawOffer.{RawOffer}
use Rattle.market.specs.declared.refusals.Refusal.{Refusal}
use Rattle.market.proofs.Checked.{none_above}
use Rattle.outcome.specs.Outcome.{at}
use Rattle.outcome.proofs.Segments.{at_same, at_other}
use Rattle.book.specs.Views.{View, Stage, entering, cleared, Asked, empty_day}
use Rattle.book.specs.Calls.{Call, tariff, offer, withdraw, bid, clear, reopen, post}
use Rattle.book.specs.Tables.{refusal}
use Rattle.book.specs.Histories.{asked, acted, after_post, unless, turn, history}
use Rattle.book.proofs.Accepted.{quiet, accepted_parts}

-- What the figures of an accepted offer keep.
pub record OfferKept (r : RawOffer) : Type 0 where
  pub unit : r.unit < 64
  pub grid : r.grid < 16
  pub class : is_some (class_at r.class) ≡ true
  pub nameplate : r.nameplate ≤ 20000
  pub plan : r.plan ≤ 20000
  pub offers : (k : ℕ) → get_or r.offers k 0 ≤ 1000

-- An offer to which no row applies keeps them.
pub offer_kept : (r : RawOffer) → topmost (offer_rows r) ≡ None → OfferKept r
offer_kept r h =
    let rows = quiet (offer_rows r) h in
    let parts = or_parts (any_above 20000 (listed (figures_in r))) (any_above 1000 r.offers) rows.1.1.1.0 in
    record {
      unit = leb-false 64 r.unit rows.0;
      grid = leb-false 16 r.grid rows.1.0;
      class = not-false (is_some (class_at r.class)) rows.1.1.0;
      nameplate = none_above 20000 (listed (figures_in r)) parts.0 0;
      plan = none_above 20000 (listed (figures_in r)) parts.0 4;
      offers = none_above 1000 r.offers parts.1;
    }

-- What the figures of an accepted bid keep.
pub record BidKept (g p n : ℕ) : Type 0 where
  pub grid : g < 16
  pub price : p ≤ 200000
  pub need : n ≤ 200000

-- A bid to which no row applies keeps them.
pub bid_kept : (g p n : ℕ) → topmost (bid_rows g p n) ≡ None → BidKept g p n
bid_kept g p n h =
    let rows = quiet (bid_rows g p n) h in
    let parts = or_parts (ltb 200000 p) (ltb 200000 n) rows.1.0 in
    record { grid = leb-false 16 g rows.0; price = ltb-false 200000 p parts.0; need = ltb-false 200000 n parts.1 }

-- Each offer that stands was accepted and stands at its unit; each bid that stands was accepted and has a need.
pub record Entered (v : View) : Type 0 where
  pub offered : (u : ℕ) (r : RawOffer) → v.offers u ≡ Some r → (topmost (offer_rows r) ≡ None) × (r.unit ≡ u)
  pub asks : (g : ℕ) (a : Asked) → v.bids g ≡ Some a → BidKept g a.price a.need × (0 < a.need)

-- Nothing is not something.
pub none_is_not_some : {X : Type 0} (x : X) → None ≡ Some x → ⊥
none_is_not_some x e = let z : ◌≡◌ {A = ℕ} 0 1 = cc in omega arith

-- The same thing stands.
pub same_some : {X : Type 0} (x y : X) → Some x ≡ Some y → x ≡ y
same_some x y e = cc

-- Whoever is offered is one of the units.
pub no_offer_outside : (v : View) → Entered v → (u : ℕ) → 64 ≤ u → v.offers u ≡ None
no_offer_outside v w u outside = by_offer (v.offers u) refl
  where
    by_offer : (o : Option RawOffer) → v.offers u ≡ o → o ≡ None
    by_offer None e = refl
    by_offer (Some r) e = absurd (let kept = w.offered u r e in let no : ⊥ = omega (arith, (offer_kept r kept.0).unit, kept.1) in no)

-- An empty day.
pub empty_entered : Entered empty_day
empty_entered = record { offered = λ u r e. absurd (none_is_not_some r e); asks = λ g a e. absurd (none_is_not_some a e) }

-- What an entry leaves: at its own number what is entered there, elsewhere what stood.
pub at_cases : {X : Type 0} (b : ℕ) (x : X) (f : ℕ → X) (k : ℕ) (y : X) → at b x f k ≡ y → ((k ≡ b) × (x ≡ y)) ⊎ (f k ≡ y)
at_cases b x f k y e =
    elim (cases_eq k b) [ inl same ↦ inl (same, sym (at_same b x f) ∙ subst (λ j. at b x f j ≡ y) same e) | inr other ↦ inr (sym (at_other b x f k other) ∙ e) ]

-- A bid that is entered has a need.
pub asked_is : (price need : ℕ) (a : Asked) → asked price need ≡ Some a → (a.price ≡ price) × ((a.need ≡ need) × (0 < need))
asked_is price need a e =
    elim (cases_Bool (eqb need 0)) [
      | inl z ↦ absurd (none_is_not_some a (sym (cond-true (eqb need 0) None (Some (record { price = price; need = need })) z) ∙ e))
      | inr z ↦
          let same = same_some (record { price = price; need = need }) a (sym (cond-false (eqb need 0) None (Some (record { price = price; need = need })) z) ∙ e) in
          let none = eqb-false need 0 z in
          (sym (ap (λ x. x.price) same), (sym (ap (λ x. x.need) same), omega arith))
    ]

-- An accepted call keeps it.
pub acted_entered : (v : View) (c : Call) → refusal v c ≡ None → Entered v → Entered (acted c v)
acted_entered v (tariff grid fen) h w = record { offered = w.offered; asks = w.asks }
acted_entered v (offer r) h w = record {
  offered = λ u s e. elim (at_cases r.unit (Some r) v.offers u (Some s) e) [
    | inl here ↦ let same = same_some r s here.1 in (rw same at (accepted_parts v (offer r) h).1.0, sym (here.0 ∙ ap (λ x. x.unit) same))
    | inr there ↦ w.offered u s there
  ];
  asks = w.asks;
}
acted_entered v (withdraw unit) h w = record {
  offered = λ u s e. elim (at_cases unit None v.offers u (Some s) e) [ inl here ↦ absurd (none_is_not_some s here.1) | inr there ↦ w.offered u s there ];
  asks = w.asks;
}
acted_entered v (bid grid price need) h w = record {
  offered = w.offered;
  asks = λ g a e. elim (at_cases grid (asked price need) v.bids g (Some a) e) [
    | inl here ↦
        let is = asked_is price need a here.1 in
        let kept = bid_kept grid price need (accepted_parts v (bid grid price need) h).1.0 in
        (record { grid = omega (arith, kept.grid, here.0); price = omega (arith, kept.price, is.0); need = omega (arith, kept.need, is.1.0) }, omega (arith, is.1.0, is.1.1))
    | inr there ↦ w.asks g a there
  ];
}
acted_entered v (clear A laws) h w = record { offered = w.offered; asks = w.asks }
acted_entered v reopen h w = record { offered = w.offered; asks = w.asks }
acted_entered v post h w = after_post_entered v.stage
  where
    after_post_entered : (s : Stage) → Entered (after_post v s)
    after_post_entered entering = w
    after_post_entered (cleared d) = record { offered = λ u r e. absurd (none_is_not_some r e); asks = λ g a e. absurd (none_is_not_some a e) }

-- Every call keeps it.
pub turn_entered : (v : View) (c : Call) → Entered v → Entered (turn c v)
turn_entered v c w = by_refusal (refusal v c) refl
  where
    by_refusal : (o : Option Refusal) → refusal v c ≡ o → Entered (unless o v (acted c v))
    by_refusal None e = acted_entered v c e w
    by_refusal (Some r) e = w

-- It holds after every list of calls.
pub history_entered : (h : List Call) → Entered (history h)
history_entered [] = empty_entered
history_entered (c ∷ h) = turn_entered (history h) c (history_entered h)

-- The segment at a bid, as a search through the rows finds it.
use Rattle.std.proofs.Common.{◌≡◌, ℕ, zero, suc, ◌<◌, ◌≤◌, Bool, cond, eqb, ◌⊎◌, List, [], ◌∷◌, length, get_or, is_some, Some, None, Option, sym, refl, ap, ◌∙◌, inl, inr, arith}
use Rattle.std.specs.Prelude.{option_map}
use Rattle.std.specs.List.{find}
use Rattle.std.proofs.lemmas.Bool.{cases_Bool, cases_eq, cond-true, cond-false, eq-eqb, ne_eqb}
use Rattle.market.specs.declared.tiers.Bid.{Bid}
use Rattle.outcome.specs.Entries.{some_bids}
use Rattle.outcome.specs.View.{figure_of}
use Rattle.outcome.proofs.Bids.{bidder}
use Rattle.clearing.specs.declared.points.Segment.{Segment}
use Rattle.clearing.specs.declared.points.Cleared.{Cleared}
use Rattle.book.specs.Views.{entries_in}
use Rattle.day.specs.Shown.{asking, point_of, segment_at, segments_of}
use Rattle.day.specs.declared.register.Register.{Register}
use Rattle.day.proofs.SegmentRows.{row_at, Rows}

abbrev pub at_bid : ℕ → Segment → Bool
at_bid b s = eqb s.bid b

-- Where no row behind the first has the bid, and the first has another, none has it.
none_behind :
    (s : Segment) (ss : List Segment) (b : ℕ) → (s.bid ≡ b → ⊥) → ((k : ℕ) → k < length ss → (row_at ss k).bid ≡ b → ⊥)
    → (k : ℕ) → k < length (s ∷ ss) → (row_at (s ∷ ss) k).bid ≡ b → ⊥
none_behind s ss b other none zero l e = other e
none_behind s ss b other none (suc k) l e = none k (omega arith) e

-- A search finds the segment at a bid, which stands in a row, or no row has the bid.
found :
    (ss : List Segment) (b : ℕ)
    → ((k : ℕ) × (k < length ss) × ((row_at ss k).bid ≡ b) × (find (at_bid b) ss ≡ Some (segment_at ss b)))
    ⊎ ((find (at_bid b) ss ≡ None) × ((k : ℕ) → k < length ss → (row_at ss k).bid ≡ b → ⊥))
found [] b = inr (refl, λ k l e. absurd (omega arith))
found (s ∷ ss) b =
    elim (cases_eq s.bid b) [
      | inl same ↦
          let e = eq-eqb s.bid b same in
          inl (0, omega arith, same, cond-true (eqb s.bid b) (Some s) (find (at_bid b) ss) e ∙ ap Some (sym (cond-true (eqb s.bid b) s (segment_at ss b) e)))
      | inr other ↦
          let e = ne_eqb s.bid b other in
          let passes = cond-false (eqb s.bid b) (Some s) (find (at_bid b) ss) e in
          elim (found ss b) [
            | inl f ↦ inl (suc f.0, omega (arith, f.1), f.2, passes ∙ f.3 ∙ ap Some (sym (cond-false (eqb s.bid b) s (segment_at ss b) e)))
            | inr f ↦ inr (passes ∙ f.0, none_behind s ss b other f.1)
          ]
    ]

-- What is told of the segment that was found, where it is found exactly if some grid bids the price.
pub told_at :
    {X : Type 0} (f : Segment → X) (ss : List Segment) (b : ℕ) (some : Bool) → some ≡ is_some (find (at_bid b) ss)
    → option_map f (find (at_bid b) ss) ≡ cond some (Some (f (segment_at ss b))) None
told_at f ss b some is =
    elim (found ss b) [
      | inl h ↦ ap (option_map f) h.3 ∙ sym (cond-true some (Some (f (segment_at ss b))) None (is ∙ ap is_some h.3))
      | inr h ↦ ap (option_map f) h.0 ∙ sym (cond-false some (Some (f (segment_at ss b))) None (is ∙ ap is_some h.0))
    ]

-- A bid that stands is no higher than a bid can be.
bid_small : (b : Option Bid) → figure_of (λ x. x.price) (asking b) ≤ 200000
bid_small None = omega arith
bid_small (Some b) = b.price.ok

-- Some grid bids a price exactly if a row has it.
pub bid_found : (r : Register) (c : Cleared) → Rows (entries_in (point_of r)) (segments_of c) → (b : ℕ) → some_bids (entries_in (point_of r)) b ≡ is_some (find (at_bid b) (segments_of c))
bid_found r c rows b =
    elim (found (segments_of c) b) [
      | inl h ↦ ap (some_bids (entries_in (point_of r))) (sym h.2) ∙ rows.bidden h.0 h.1 ∙ sym (ap is_some h.3)
      | inr h ↦
          elim (cases_Bool (some_bids (entries_in (point_of r)) b)) [
            | inl some ↦
                let g = bidder (entries_in (point_of r)) b some in
                let row = rows.all b (omega (arith, bid_small (get_or r.bids g.0 None), g.3)) some in
                absurd (h.1 row.0 row.1 row.2)
            | inr none ↦ none ∙ sym (ap is_some h.0)
          ]
    ]

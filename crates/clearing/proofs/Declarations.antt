-- What the tables declare, from bid to bid.
use Rattle.std.proofs.Common.{◌≡◌, ℕ, suc, ◌+◌, ◌-◌, ◌*◌, ◌<◌, ◌≤◌, true, false, List, length, get_or, set, replicate, sum, sym, refl, ap, ◌∙◌, subst, inl, inr, arith}
use mathlib.Core.Path.{fun_ext}
use lib.ListN.{length-replicate, get_or-replicate}
use Rattle.std.proofs.lemmas.List.{get_or-set_same, get_or-set_other, get_or_past}
use Rattle.std.proofs.lemmas.Bool.{cases_eq, cases_lt, both_ways}
use Rattle.lawful.specs.Awards.{Award, AwardSet}
use Rattle.lawful.specs.Lawful.{Lawful, above}
use Rattle.lawful.proofs.Sums.{sum_bound}
use Rattle.market.specs.Sharing.{shares_of}
use Rattle.market.specs.declared.tiers.Tier.{Tier}
use Rattle.outcome.specs.Entries.{Entries, Ranged, some_bids}
use Rattle.outcome.specs.Groups.{total}
use Rattle.outcome.specs.Outcome.{Outcome, Swept, start, sweep, claims, segment, segments_below}
use Rattle.outcome.specs.View.{entries_of}
use Rattle.outcome.specs.declared.PointEntries.{PointEntries}
use Rattle.outcome.proofs.Cleared.{cleared_below}
use Rattle.outcome.proofs.Segments.{at_same, at_other}
use Rattle.clearing.specs.Awarded.{award_of}
use Rattle.clearing.specs.Sequence.{Sequence, SequenceFrom, buyers_of, swept_from}
use Rattle.clearing.specs.Declaration.{SegmentOf, Declares, blank_segment}
use Rattle.clearing.specs.Progress.{Reached}
use Rattle.clearing.specs.declared.points.Segment.{Segment}
use Rattle.clearing.specs.declared.points.Cleared.{Cleared}
use Rattle.clearing.proofs.OpenNeeds.{claims_same, claims_got_same, claim_bounded}
use Rattle.clearing.proofs.SegmentSteps.{segments_none, segments_more, segments_between, bidders_grow, bidders_few, bidders_more}

-- A table of zeros holds zeros, and beyond it too.
pub zeros_at : (n k : ℕ) → get_or {A = ℕ} (replicate n 0) k 0 ≡ 0
zeros_at n k =
    elim (cases_lt k n) [
      | inl l ↦ get_or-replicate n k 0 0 l
      | inr past ↦ get_or_past (replicate n 0) k 0 (omega (arith, length-replicate {A = ℕ} n 0))
    ]

-- On top of nothing the whole set is permitted.
pub above_zeros : (A : AwardSet) (awards : List ℕ) → ((p : ℕ) → get_or awards p 0 ≡ 0) → A ≡ above (award_of awards) A
above_zeros A awards none = fun_ext (λ x. ap A (fun_ext (λ p. omega (arith, none p))))

-- Tables declare as much up to a greater number where nobody bids in between.
pub declares_between :
    (e : Entries) (n b : ℕ) (o : Outcome) (c : Cleared) → n ≤ b → ((k : ℕ) → n ≤ k → k < b → some_bids e k ≡ false) → Declares e n o c → Declares e b o c
declares_between e n b o c le none d = record {
  awards = d.awards;
  got = d.got;
  few = d.few;
  each = λ k s l. let here = d.each k s l in (here.0, omega (arith, here.1));
  all = λ k l some.
      elim (cases_lt k n) [
        | inl below ↦ d.all k below some
        | inr above ↦ absurd (both_ways (some_bids e k) (none k above l) some)
      ];
  rising = d.rising;
  rest = d.rest;
}

-- The same of what is reached.
pub reached_between :
    (A : AwardSet) (e : Entries) (n b : ℕ) (ts : List Tier) (c : Cleared)
    → n ≤ b → ((k : ℕ) → n ≤ k → k < b → some_bids e k ≡ false) → Reached A e n ts c → Reached A e b ts c
reached_between A e n b ts c le none r =
    let same : segments_below A e n ≡ segments_below A e b = sym (segments_between A e n b le none) in
    record {
      declared = subst (λ o. Declares e b o c) same (declares_between e n b (segments_below A e n) c le none r.declared);
      above = subst (λ o. SequenceFrom e o.next ts) same r.above;
      counted = omega (arith, r.counted, bidders_grow e n b le);
    }

-- Empty tables declare what is there before the first bid.
pub reached_none :
    (A : AwardSet) (e : Entries) (ts : List Tier) (c : Cleared) → Sequence e ts → ((p : ℕ) → get_or c.awards p 0 ≡ 0) → ((g : ℕ) → get_or c.got g 0 ≡ 0) → c.count ≡ 0
    → ((k : ℕ) (d : Segment) → k < 16 → get_or c.segments k d ≡ blank_segment) → Reached A e 0 ts c
reached_none A e ts c s awards got none blank = record {
  declared = subst (λ o. Declares e 0 o c) (sym (segments_none A e)) first;
  above = subst (λ o. SequenceFrom e o.next ts) (sym (segments_none A e)) s;
  counted = omega arith;
}
  where
    first : Declares e 0 start c
    first = record {
      awards = awards;
      got = λ g l. got g;
      few = omega arith;
      each = λ k d l. absurd (omega arith);
      all = λ b l some. absurd (omega arith);
      rising = λ i j d less l. absurd (omega arith);
      rest = λ k d from l. blank k d l;
    }

-- One segment more in the tables, where nothing changes at the other bids.
module _ (e : Entries) (b : ℕ) (o after : Outcome) (c : Cleared) (new : Segment) (awards got : List ℕ)
    (was : Declares e b o c)
    (some : some_bids e b ≡ true)
    (room : c.count < 16)
    (fits : c.count + 1 ≤ 16)
    (long : length c.segments ≡ 16)
    (others : (k : ℕ) → (k ≡ b → ⊥) → (after.quantity k ≡ o.quantity k) × (after.price k ≡ o.price k) × (after.share k ≡ o.share k))
    (here : new.bid ≡ b)
    (is-new : SegmentOf e after new)
    (awards-are : (p : ℕ) → get_or awards p 0 ≡ after.award p)
    (got-are : (g : ℕ) → g < 16 → get_or got g 0 ≡ after.got g) where
  abbrev table : List Segment
  table = set c.segments c.count new

  last_is : (d : Segment) → get_or table c.count d ≡ new
  last_is d = get_or-set_same c.segments c.count new d (omega arith)

  other_is : (k : ℕ) (d : Segment) → (k ≡ c.count → ⊥) → get_or table k d ≡ get_or c.segments k d
  other_is k d ne = get_or-set_other c.segments c.count k new d ne

  -- A segment declared before is as it was.
  old_stays : (s : Segment) → s.bid < b → SegmentOf e o s → SegmentOf e after s
  old_stays s low f =
      let same = others s.bid (λ eq. omega arith) in
      record {
        bidden = f.bidden;
        quantity = f.quantity ∙ sym same.0;
        price = f.price ∙ sym same.1;
        shares = λ g l. f.shares g l ∙ ap (λ h. h g) (sym same.2);
      }

  pub declares_more : Declares e (suc b) after (record { awards = awards; got = got; segments = table; count = c.count + 1; few = fits })
  declares_more = record {
    awards = awards-are;
    got = got-are;
    few = omega arith;
    each = λ k d l.
        elim (cases_eq k c.count) [
          | inl last ↦ rw last (subst (λ s. SegmentOf e after s × (s.bid < suc b)) (sym (last_is d)) (is-new, omega arith))
          | inr ne ↦
              let old = was.each k d (omega arith) in
              subst (λ s. SegmentOf e after s × (s.bid < suc b)) (sym (other_is k d ne)) (old_stays (get_or c.segments k d) old.1 old.0, omega (arith, old.1))
        ];
    all = λ k l is-bid.
        elim (cases_eq k b) [
          | inl same ↦ (c.count, omega arith, λ d. ap (λ s. s.bid) (last_is d) ∙ here ∙ sym same)
          | inr ne ↦
              let old = was.all k (omega arith) is-bid in
              (old.0, omega (arith, old.1), λ d. ap (λ s. s.bid) (other_is old.0 d (λ eq. omega (arith, old.1))) ∙ old.2 d)
        ];
    rising = λ i j d less l.
        elim (cases_eq j c.count) [
          | inl last ↦
              rw last (omega (arith, ap (λ s. s.bid) (last_is d), here, ap (λ s. s.bid) (other_is i d (λ eq. omega arith)), (was.each i d (omega arith)).1))
          | inr ne ↦
              omega (arith, ap (λ s. s.bid) (other_is j d ne), ap (λ s. s.bid) (other_is i d (λ eq. omega arith)), was.rising i j d less (omega arith))
        ];
    rest = λ k d from l. other_is k d (λ eq. omega arith) ∙ was.rest k d (omega arith) l;
  }

-- The segment at the bid b, worked over the tables that declare o.
module _ (A : AwardSet) (e : Entries) (b : ℕ) (o : Outcome) (c : Cleared) (awards got wants shares : List ℕ) (want quantity price : ℕ)
    (was : Declares e b o c)
    (some : some_bids e b ≡ true)
    (room : c.count < 16)
    (fits : c.count + 1 ≤ 16)
    (long : length c.segments ≡ 16)
    (wanted : wants ≡ claims e o.got b)
    (adds_up : want ≡ sum wants)
    (swept :
    sweep A e (total (award_of c.awards) + want) o.next (8 * suc b - o.next) (swept_from (award_of c.awards) 0) ≡ swept_from (award_of awards) price)
    (taken : quantity + total (award_of c.awards) ≡ total (award_of awards))
    (shared : shares ≡ shares_of quantity wants)
    (gotten : (g : ℕ) → get_or got g 0 ≡ get_or c.got g 0 + get_or (shares_of quantity wants) g 0) where
  abbrev levels : ℕ → Award → Swept
  levels more z = sweep A e (total z + more) o.next (8 * suc b - o.next) (swept_from z 0)

  abbrev worked : Swept
  worked = levels (sum (claims e o.got b)) o.award

  -- The table of awards holds the award so far.
  award_was : award_of c.awards ≡ o.award
  award_was = fun_ext was.awards

  -- What was worked is the sweep of the segment.
  worked_is : worked ≡ swept_from (award_of awards) price
  worked_is = sym (ap (levels want) award_was ∙ ap (λ more. levels more o.award) (adds_up ∙ ap sum wanted)) ∙ swept

  -- The quantity taken is that of the segment.
  quantity_is : quantity ≡ total worked.award - total o.award
  quantity_is = omega (arith, taken, ap total award_was, ap (λ s. total s.award) worked_is)

  -- The shares are those of the segment.
  given_is : shares_of quantity wants ≡ shares_of (total worked.award - total o.award) (claims e o.got b)
  given_is = ap (λ q. shares_of q wants) quantity_is ∙ ap (shares_of (total worked.award - total o.award)) wanted

  abbrev given : ℕ → ℕ
  given g = get_or (shares_of (total worked.award - total o.award) (claims e o.got b)) g 0

  abbrev new : Segment
  new = record { bid = b; quantity = quantity; price = price; shares = shares }

  new_segment : SegmentOf e (segment A e b o) new
  new_segment = record {
    bidden = some;
    quantity = quantity_is ∙ sym (at_same b (total worked.award - total o.award) o.quantity);
    price = ap (λ s. s.price) (sym worked_is) ∙ sym (at_same b worked.price o.price);
    shares = λ g l. ap (λ xs. get_or xs g 0) (shared ∙ given_is) ∙ ap (λ f. f g) (sym (at_same b given o.share));
  }

  -- With it the tables declare one segment more.
  pub segment_declared :
      Declares e (suc b) (segment A e b o) (record { awards = awards; got = got; segments = set c.segments c.count new; count = c.count + 1; few = fits })
  segment_declared =
      declares_more e b o (segment A e b o) c new awards got was some room fits long
      (λ k ne.
      (at_other b (total worked.award - total o.award) o.quantity k ne, at_other b worked.price o.price k ne, at_other b given o.share k ne))
      refl
      new_segment
      (λ p. ap (λ s. s.award p) (sym worked_is))
      (λ g l. omega (arith, gotten g, was.got g l, ap (λ xs. get_or xs g 0) given_is))

-- The same of what is reached.
pub reached_more :
    (A : AwardSet) (e : Entries) (b : ℕ) (ts left : List Tier) (c after : Cleared) → Reached A e b ts c → some_bids e b ≡ true
    → Declares e (suc b) (segment A e b (segments_below A e b)) after → SequenceFrom e (8 * suc b) left → after.count ≡ c.count + 1 → Reached A e (suc b) left after
reached_more A e b ts left c after r some declared above one_more =
    let same : segment A e b (segments_below A e b) ≡ segments_below A e (suc b) = sym (segments_more A e b some) in
    record {
      declared = subst (λ o. Declares e (suc b) o after) same declared;
      above = subst (λ o. SequenceFrom e o.next left) same above;
      counted = omega (arith, r.counted, bidders_more e b some);
    }

-- There is room for one segment more.
pub segment_fits : (A : AwardSet) (e : Entries) (b : ℕ) (ts : List Tier) (c : Cleared) → Reached A e b ts c → some_bids e b ≡ true → c.count < 16
segment_fits A e b ts c r some = omega (arith, r.counted, bidders_more e b some, bidders_few e (suc b))

-- The awards so far are small.
pub awards_small :
    (A : AwardSet) (e : Entries) (b : ℕ) (ts : List Tier) (c : Cleared) → Lawful 256 A → Ranged e → Reached A e b ts c → total (award_of c.awards) ≤ 20000 * 256
awards_small A e b ts c laws ranged r =
    sum_bound 256 20000 (award_of c.awards) (λ p l. omega (arith, r.declared.awards p, (cleared_below A e laws ranged b).kept p, ranged.capacities p))

-- Written from the table of bids, the wants are the claims of the entries.
pub wants_are_claims :
    (e : PointEntries) (got wants : List ℕ) (b : ℕ) (so_far : ℕ → ℕ) → wants ≡ claims (buyers_of e.bids) (award_of got) b
    → ((g : ℕ) → g < 16 → get_or got g 0 ≡ so_far g) → wants ≡ claims (entries_of e) so_far b
wants_are_claims e got wants b so_far written same =
    written
    ∙ claims_same (buyers_of e.bids) (entries_of e) (λ g. refl) (λ g. refl) (award_of got) b
    ∙ claims_got_same (entries_of e) (award_of got) so_far same b

-- What a grid wants is within its need.
pub wants_small :
    (e : PointEntries) (got wants : List ℕ) (b : ℕ) → wants ≡ claims (buyers_of e.bids) (award_of got) b → (g : ℕ) → get_or wants g 0 ≤ (entries_of e).need g
wants_small e got wants b written g = rw written (claim_bounded (buyers_of e.bids) (award_of got) b g)

-- What the grids got so far is within their needs.
pub got_small :
    (A : AwardSet) (e : Entries) (b : ℕ) (ts : List Tier) (c : Cleared) → Lawful 256 A → Ranged e → Reached A e b ts c → length c.got ≡ 16
    → (g : ℕ) → get_or c.got g 0 ≤ e.need g
got_small A e b ts c laws ranged r long g =
    elim (cases_lt g 16) [
      | inl l ↦ omega (arith, r.declared.got g l, (cleared_below A e laws ranged b).served g l)
      | inr past ↦ omega (arith, get_or_past c.got g 0 (omega (arith, long)))
    ]

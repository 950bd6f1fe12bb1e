-- The segments worked so far are sound, and one more segment keeps them so.
use Rattle.std.proofs.Common.{◌≡◌, ℕ, zero, suc, ◌+◌, ◌-◌, ◌*◌, ◌<◌, ◌≤◌, true, false, eqb, ◌⊎◌, List, get_or, sum, sym, refl, ap, ◌∙◌, subst, inl, inr, arith}
use Rattle.std.proofs.lemmas.Bool.{cases_Bool, cases_eq, cond-true, cond-false, eq-eqb, ne_eqb, both_ways}
use Rattle.lawful.specs.Sums.{sum_to}
use Rattle.lawful.specs.Awards.{AwardSet, keep, within}
use Rattle.lawful.proofs.Sums.{sum_same, sum_plus, sum_suc, sum_none}
use Rattle.lawful.proofs.Awards.{keep_at, keep_outside}
use Rattle.market.specs.Sharing.{shares_of, Fair}
use Rattle.market.proofs.Shares.{shares_fair}
use Rattle.outcome.specs.Entries.{Entries, Ranged, level, some_bids}
use Rattle.outcome.specs.Groups.{total}
use Rattle.outcome.specs.Outcome.{Swept, sweep, Outcome, start, claims, at, segment, segments_below}
use Rattle.outcome.specs.Laws.{in_segment, SoundSegment}
use Rattle.outcome.proofs.Sweeps.{sweep_only, sweep_within_goal, sweep_price_le, sweep_covers}
use Rattle.outcome.proofs.Bids.{lands_within, lands_above, out_of_segment}
use Rattle.outcome.proofs.Claims.{shares_add_up, shares_buyers}

-- The number at which a function was changed has the new value.
pub at_same : {X : Type 0} (b : ℕ) (x : X) (f : ℕ → X) → at b x f b ≡ x
at_same b x f = cond-true (eqb b b) x (f b) (eq-eqb b b refl)

-- Another number has the value it had.
pub at_other : {X : Type 0} (b : ℕ) (x : X) (f : ℕ → X) (k : ℕ) → (k ≡ b → ⊥) → at b x f k ≡ f k
at_other b x f k ne = cond-false (eqb k b) x (f k) (ne_eqb k b ne)

-- there is nothing at b
abbrev pub Empty : Outcome → ℕ → Type 0
Empty o b = (o.quantity b ≡ 0) × ((o.price b ≡ 0) × ((g : ℕ) → o.share b g ≡ 0))

-- What holds once the segments of the bids below n are worked.
pub record Worked (e : Entries) (n : ℕ) (o : Outcome) : Type 0 where
  -- the levels worked are those of the bids below n: all of them, and none beyond the last
  pub above_bids : (b : ℕ) → b < n → some_bids e b ≡ true → 8 * suc b ≤ o.next
  pub last_bid : (o.next ≡ 0) ⊎ ((b : ℕ) × (b < n) × (some_bids e b ≡ true) × (o.next ≡ 8 * suc b))
  -- the levels beyond have no award
  pub untouched : (p : ℕ) → o.next ≤ level e p → o.award p ≡ 0
  pub sound : (b : ℕ) → b < n → some_bids e b ≡ true → SoundSegment e o b
  -- there is nothing at what is not yet worked, nor at what nobody bids
  pub empty : (b : ℕ) → (n ≤ b) ⊎ (some_bids e b ≡ false) → Empty o b
  pub sums : (g : ℕ) → o.got g ≡ sum_to n (λ b. o.share b g)

-- Before any bid all of it holds.
pub worked_none : (e : Entries) → Worked e 0 start
worked_none e = record {
  above_bids = λ b l some. absurd (let no : ⊥ = omega arith in no);
  last_bid = inl refl;
  untouched = λ p l. refl;
  sound = λ b l some. absurd (let no : ⊥ = omega arith in no);
  empty = λ b h. (refl, (refl, λ g. refl));
  sums = λ g. sym (sum_none (λ b. 0));
}

-- A number that nobody bids changes none of it.
pub worked_skip : (e : Entries) (b : ℕ) (o : Outcome) → some_bids e b ≡ false → Worked e b o → Worked e (suc b) o
worked_skip e b o none w = record {
  above_bids = λ c l some. w.above_bids c (earlier c l some) some;
  last_bid = elim w.last_bid [ inl z ↦ inl z | inr d ↦ inr (d.0, omega arith, d.2, d.3) ];
  untouched = w.untouched;
  sound = λ c l some. w.sound c (earlier c l some) some;
  empty = λ c h. w.empty c (elim h [ inl l ↦ inl (omega arith) | inr f ↦ inr f ]);
  sums = λ g. omega (arith, w.sums g, sum_suc b (λ c. o.share c g), (w.empty b (inr none)).1.1 g);
}
  where
    earlier : (c : ℕ) → c < suc b → some_bids e c ≡ true → c < b
    earlier c l some =
        elim (cases_eq c b) [ inl same ↦ absurd (both_ways (some_bids e b) none (rw same at some)) | inr other ↦ omega arith ]

-- One more segment, at a bid above those worked.
module _ (A : AwardSet) (e : Entries) (ranged : Ranged e) (b : ℕ) (o : Outcome) (w : Worked e b o) where
  abbrev wanted : List ℕ
  wanted = claims e o.got b

  abbrev goal : ℕ
  goal = total o.award + sum wanted

  abbrev levels : ℕ
  levels = 8 * suc b - o.next

  abbrev before : Swept
  before = record { award = o.award; price = 0 }

  abbrev after : Swept
  after = sweep A e goal o.next levels before

  abbrev taken : ℕ
  taken = total after.award - total o.award

  abbrev given : List ℕ
  given = shares_of taken wanted

  -- The levels worked before end at or below those of this bid.
  next_le : o.next + levels ≡ 8 * suc b
  next_le = elim w.last_bid [ inl z ↦ omega arith | inr d ↦ omega (arith, d.1, d.3) ]

  -- A level worked before keeps its awards.
  kept_below : (p : ℕ) → level e p < o.next → after.award p ≡ o.award p
  kept_below p l = sweep_only A e goal o.next before levels p (inl l)

  -- A level above the bid keeps its awards.
  kept_above : (p : ℕ) → 8 * suc b ≤ level e p → after.award p ≡ o.award p
  kept_above p l = sweep_only A e goal o.next before levels p (inr (omega (arith, next_le)))

  -- A place of this segment stands above the levels worked before.
  stands_above : (p : ℕ) → in_segment e b p ≡ true → o.next ≤ level e p
  stands_above p h = elim w.last_bid [ inl z ↦ omega arith | inr d ↦ omega (arith, d.3, lands_above e b p h d.0 d.1 d.2) ]

  -- A place outside this segment keeps its award.
  kept_outside : (p : ℕ) → in_segment e b p ≡ false → after.award p ≡ o.award p
  kept_outside p h =
      elim (out_of_segment e b p h) [
        | inl l ↦ kept_above p (omega arith)
        | inr d ↦ kept_below p (omega (arith, ranged.classes p, d.3, w.above_bids d.0 d.1 d.2))
      ]

  -- What is taken is taken by the places of this segment.
  awards_taken : within 256 (in_segment e b) after.award ≡ taken
  awards_taken =
      let parts = sum_plus 256 o.award (keep (in_segment e b) after.award) in
      let same = sum_same 256 after.award (λ p. o.award p + keep (in_segment e b) after.award p) (λ p l. at_place p) in
      omega (arith, parts, same)
    where
      at_place : (p : ℕ) → after.award p ≡ o.award p + keep (in_segment e b) after.award p
      at_place p =
          elim (cases_Bool (in_segment e b p)) [
            | inl h ↦ omega (arith, keep_at (in_segment e b) after.award p h, w.untouched p (stands_above p h))
            | inr h ↦ omega (arith, keep_outside (in_segment e b) after.award p h, kept_outside p h)
          ]

  -- The shares of what is taken are fair.
  fair_shares : Fair taken wanted given
  fair_shares = shares_fair taken wanted (omega (arith, sweep_within_goal A e goal o.next before levels (omega arith)))

  -- The new segment is sound.
  new_sound : SoundSegment e (segment A e b o) b
  new_sound = record {
    shared =
        ap (sum_to 16) (at_same b (λ g. get_or given g 0) o.share)
        ∙ shares_add_up e o.got b taken given fair_shares
        ∙ sym (at_same b taken o.quantity);
    awarded = awards_taken ∙ sym (at_same b taken o.quantity);
    buyers = λ g l some. shares_buyers e o.got b taken given fair_shares g (subst (λ f. 0 < f g) (at_same b (λ g. get_or given g 0) o.share) some);
    covers = λ p l h some.
        subst (λ v. e.landed p ≤ v) (sym (at_same b after.price o.price))
        (sweep_covers A e goal o.next before levels p l (ranged.classes p) (omega (arith, w.untouched p (stands_above p h), some)));
    capped_by_bid =
        subst (λ v. v ≤ b) (sym (at_same b after.price o.price))
        (sweep_price_le A e goal o.next before levels b (omega arith) (omega (arith, next_le)));
  }

  -- The segments before it stay sound.
  old_sound : (c : ℕ) → c < b → some_bids e c ≡ true → SoundSegment e (segment A e b o) c
  old_sound c l some = record {
    shared = ap (sum_to 16) shares_same ∙ was.shared ∙ sym quantity_same;
    awarded = sum_same 256 (keep (in_segment e c) after.award) (keep (in_segment e c) o.award) (λ p j. kept_part p) ∙ was.awarded ∙ sym quantity_same;
    buyers = λ g j has. was.buyers g j (subst (λ f. 0 < f g) shares_same has);
    covers = λ p j h has. subst (λ v. e.landed p ≤ v) (sym price_same) (was.covers p j h (omega (arith, kept_in p h, has)));
    capped_by_bid = subst (λ v. v ≤ c) (sym price_same) was.capped_by_bid;
  }
    where
      was : SoundSegment e o c
      was = w.sound c l some

      other : c ≡ b → ⊥
      other same = omega arith

      shares_same : (segment A e b o).share c ≡ o.share c
      shares_same = at_other b (λ g. get_or given g 0) o.share c other

      quantity_same : (segment A e b o).quantity c ≡ o.quantity c
      quantity_same = at_other b taken o.quantity c other

      price_same : (segment A e b o).price c ≡ o.price c
      price_same = at_other b after.price o.price c other

      kept_in : (p : ℕ) → in_segment e c p ≡ true → after.award p ≡ o.award p
      kept_in p h = kept_below p (omega (arith, ranged.classes p, lands_within e c p h, w.above_bids c l some))

      kept_part : (p : ℕ) → keep (in_segment e c) after.award p ≡ keep (in_segment e c) o.award p
      kept_part p =
          elim (cases_Bool (in_segment e c p)) [
            | inl h ↦ keep_at (in_segment e c) after.award p h ∙ kept_in p h ∙ sym (keep_at (in_segment e c) o.award p h)
            | inr h ↦ keep_outside (in_segment e c) after.award p h ∙ sym (keep_outside (in_segment e c) o.award p h)
          ]

  -- What was empty elsewhere stays so.
  still_empty : (c : ℕ) → (c ≡ b → ⊥) → Empty o c → Empty (segment A e b o) c
  still_empty c other was = (
    at_other b taken o.quantity c other ∙ was.0,
    (
      at_other b after.price o.price c other ∙ was.1.0,
      λ g. ap (λ f. f g) (at_other b (λ g. get_or given g 0) o.share c other) ∙ was.1.1 g,
    ),
  )

  -- A grid has got what it got in the segments, with this one.
  still_sums : (g : ℕ) → (segment A e b o).got g ≡ sum_to (suc b) (λ c. (segment A e b o).share c g)
  still_sums g =
      let here : (segment A e b o).share b g ≡ get_or given g 0 = ap (λ f. f g) (at_same b (λ k. get_or given k 0) o.share) in
      let others = sum_same b (λ c. (segment A e b o).share c g) (λ c. o.share c g) (λ c l. ap (λ f. f g) (at_other b (λ k. get_or given k 0) o.share c (λ same. omega arith))) in
      omega (arith, sum_suc b (λ c. (segment A e b o).share c g), here, others, w.sums g)

  -- With the segment at b all of it holds below b + 1.
  pub worked_more : some_bids e b ≡ true → Worked e (suc b) (segment A e b o)
  worked_more some-b = record {
    above_bids = λ c l some. omega arith;
    last_bid = inr (b, omega arith, some-b, refl);
    untouched = λ p l. kept_above p l ∙ w.untouched p (omega (arith, next_le));
    sound = λ c l some. elim (cases_eq c b) [ inl same ↦ rw same new_sound | inr other ↦ old_sound c (omega arith) some ];
    empty = λ c h.
        elim h [
          | inl l ↦ still_empty c (λ same. omega arith) (w.empty c (inl (omega arith)))
          | inr none ↦ still_empty c (λ same. both_ways (some_bids e c) none (rw same some-b)) (w.empty c (inr none))
        ];
    sums = still_sums;
  }

-- It holds for the segments of the bids below any number.
pub worked_below : (A : AwardSet) (e : Entries) → Ranged e → (n : ℕ) → Worked e n (segments_below A e n)
unfolding segments_below
worked_below A e ranged zero = worked_none e
worked_below A e ranged (suc b) =
    let w = worked_below A e ranged b in
    elim (cases_Bool (some_bids e b)) [
      | inl some ↦ rw some (worked_more A e ranged b (segments_below A e b) w some)
      | inr none ↦ rw none (worked_skip e b (segments_below A e b) none w)
    ]

-- The segments, in rising order of their bids: what holds of the award and of the buyers once the bids below a number are worked.
use Rattle.std.proofs.Common.{◌≡◌, ℕ, zero, suc, ◌+◌, ◌-◌, ◌*◌, ◌<◌, ◌≤◌, true, false, cond, leb, ◌⊎◌, get_or, sum, sym, refl, ap, ◌∙◌, subst, inl, inr, arith}
use Rattle.std.proofs.lemmas.List.Sums.{sum_by-cons}
use Rattle.std.proofs.lemmas.Bool.{cases_Bool, cases_lt, cond-true, cond-false, le-leb, lt-leb, both_ways}
use Rattle.lawful.specs.Awards.{AwardSet}
use Rattle.lawful.specs.Lawful.{Lawful}
use Rattle.market.specs.Sharing.{shares_of, Fair}
use Rattle.market.proofs.Shares.{shares_fair}
use Rattle.outcome.specs.Entries.{Entries, Ranged, level, some_bids}
use Rattle.outcome.specs.Groups.{total}
use Rattle.outcome.specs.Outcome.{Outcome, start, claims_from, claims, segment, segments_below}
use Rattle.outcome.proofs.GroupFull.{Kept}
use Rattle.outcome.proofs.Sweeps.{sweep_only}
use Rattle.outcome.proofs.Bids.{bid_of_lem}
use Rattle.outcome.proofs.Dominance.{FullBelow, Filled, WorkedTo, inside_by_support, full_below_carried, sweep_worked}

-- The claim of a grid is its open need where it bids enough, else nothing.
pub claim_at : (e : Entries) (got : ℕ → ℕ) (b n g k : ℕ) → k < n → get_or (claims_from e got b n g) k 0 ≡ cond (leb b (e.bid (g + k))) (e.need (g + k) - got (g + k)) 0
unfolding claims_from
claim_at e got b zero g k l = absurd (omega arith)
claim_at e got b (suc n) g zero l = let same : g ≡ g + 0 = omega arith in ap (λ h. cond (leb b (e.bid h)) (e.need h - got h) 0) same
claim_at e got b (suc n) g (suc k) l =
    let same : suc g + k ≡ g + suc k = omega arith in
    claim_at e got b n (suc g) k (omega arith) ∙ ap (λ h. cond (leb b (e.bid h)) (e.need h - got h) 0) same

-- Where every buyer has its need, nothing is claimed.
pub no_claims : (e : Entries) (got : ℕ → ℕ) (b n g : ℕ) → ((k : ℕ) → k < g + n → b ≤ e.bid k → e.need k ≡ got k) → sum (claims_from e got b n g) ≡ 0
unfolding claims_from
no_claims e got b zero g served = refl
no_claims e got b (suc n) g served =
    let rest = no_claims e got b n (suc g) (λ k l. served k (omega arith)) in
    let head : cond (leb b (e.bid g)) (e.need g - got g) 0 ≡ 0 =
    elim (cases_lt (e.bid g) b) [
      | inl low ↦ cond-false (leb b (e.bid g)) (e.need g - got g) 0 (lt-leb b (e.bid g) low)
      | inr high ↦ cond-true (leb b (e.bid g)) (e.need g - got g) 0 (le-leb b (e.bid g) high) ∙ omega (arith, served g (omega arith) high)
    ] in
    omega (arith, sum_by-cons (λ x. x) (cond (leb b (e.bid g)) (e.need g - got g) 0) (claims_from e got b n (suc g)))

-- What holds once the bids below n are worked.
pub record Cleared (A : AwardSet) (e : Entries) (n : ℕ) (o : Outcome) : Type 0 where
  pub in_set : A o.award ≡ true
  pub kept : Kept e.capacity o.award
  pub support : (p : ℕ) → o.next ≤ level e p → o.award p ≡ 0
  pub behind : o.next ≤ 8 * n
  pub filled : Filled A e o.award
  pub served : (g : ℕ) → g < 16 → o.got g ≤ e.need g
  -- nothing more can be taken so far, or whoever bids n or more has its need
  pub exhausted : FullBelow A e o.next o.award ⊎ ((g : ℕ) → g < 16 → n ≤ e.bid g → e.need g ≡ o.got g)
  -- whoever bids less has its need, or nothing more can be taken up to its bid
  pub buyers :
      (g : ℕ) → g < 16 → e.bid g < n
      → (e.need g ≡ o.got g) ⊎ ((8 * suc (e.bid g) ≤ o.next) × FullBelow A e (8 * suc (e.bid g)) o.award)

-- Before the first bid.
pub cleared_none : (A : AwardSet) (e : Entries) → Lawful 256 A → Cleared A e 0 start
cleared_none A e laws = record {
  in_set = laws.zero_in;
  kept = λ k. omega arith;
  support = λ p l. refl;
  behind = omega arith;
  filled = λ l. inl (inside_by_support e l start.award (λ p h. refl));
  served = λ g h. omega arith;
  exhausted = inl (λ l less. absurd (omega arith));
  buyers = λ g h less. absurd (omega arith);
}

-- A number that nobody bids.
pub cleared_skip : (A : AwardSet) (e : Entries) (b : ℕ) (o : Outcome) → some_bids e b ≡ false → Cleared A e b o → Cleared A e (suc b) o
cleared_skip A e b o nobody c = record {
  in_set = c.in_set;
  kept = c.kept;
  support = c.support;
  behind = omega (arith, c.behind);
  filled = c.filled;
  served = c.served;
  exhausted = elim c.exhausted [ inl full ↦ inl full | inr served ↦ inr (λ g h above. served g h (omega arith)) ];
  buyers = λ g h less.
      elim (cases_lt (e.bid g) b) [
        | inl below ↦ c.buyers g h below
        | inr above ↦ inl (no_need g h (omega arith))
      ];
}
  where
    no_need : (g : ℕ) → g < 16 → e.bid g ≡ b → e.need g ≡ o.got g
    no_need g h same =
        elim (cases_lt 0 (e.need g)) [
          | inl some ↦ absurd (both_ways (some_bids e b) nobody (subst (λ x. some_bids e x ≡ true) same (bid_of_lem e g h some)))
          | inr none ↦ omega (arith, c.served g h)
        ]

-- The segment at the bid b.
module _ (A : AwardSet) (e : Entries) (laws : Lawful 256 A) (ranged : Ranged e) (b : ℕ) (o : Outcome) (c : Cleared A e b o) where
  -- Before the segment its groups from the next level on are still to be worked.
  segment_start : WorkedTo A e (total o.award + sum (claims e o.got b)) o.next o.award
  segment_start = record {
    in_set = c.in_set;
    kept = c.kept;
    support = c.support;
    within_goal = omega arith;
    filled = c.filled;
    exhausted = elim c.exhausted [
      | inl full ↦ inl full
      | inr served ↦ inr (omega (arith, no_claims e o.got b 16 0 (λ k l high. served k (omega arith) high)))
    ];
  }

  -- After it all groups up to the bid are worked.
  segment_worked : WorkedTo A e (total o.award + sum (claims e o.got b)) (8 * suc b) (segment A e b o).award
  segment_worked =
      let goal = total o.award + sum (claims e o.got b) in
      let last : o.next + (8 * suc b - o.next) ≡ 8 * suc b = omega (arith, c.behind) in
      subst (λ m. WorkedTo A e goal m (segment A e b o).award) last
      (sweep_worked A e laws ranged goal o.next (record { award = o.award; price = 0 }) segment_start (8 * suc b - o.next))

  -- It changes nothing below the levels of the segment.
  segment_below : (p : ℕ) → level e p < o.next → o.award p ≡ (segment A e b o).award p
  segment_below p less =
      sym (sweep_only A e (total o.award + sum (claims e o.got b)) o.next (record { award = o.award; price = 0 }) (8 * suc b - o.next) p (inl less))

  -- What is taken is shared fairly.
  segment_fair :
      Fair (total (segment A e b o).award - total o.award) (claims e o.got b)
      (shares_of (total (segment A e b o).award - total o.award) (claims e o.got b))
  segment_fair = shares_fair (total (segment A e b o).award - total o.award) (claims e o.got b) (omega (arith, segment_worked.within_goal))

  -- The claim of a buyer is its open need.
  claim_of_buyer : (g : ℕ) → g < 16 → b ≤ e.bid g → get_or (claims e o.got b) g 0 ≡ e.need g - o.got g
  claim_of_buyer g h high =
      let same : 0 + g ≡ g = omega arith in
      claim_at e o.got b 16 0 g h ∙ ap (λ k. cond (leb b (e.bid k)) (e.need k - o.got k) 0) same
      ∙ cond-true (leb b (e.bid g)) (e.need g - o.got g) 0 (le-leb b (e.bid g) high)

  -- Who bids less claims nothing.
  claim_of_other : (g : ℕ) → g < 16 → e.bid g < b → get_or (claims e o.got b) g 0 ≡ 0
  claim_of_other g h low =
      let same : 0 + g ≡ g = omega arith in
      claim_at e o.got b 16 0 g h ∙ ap (λ k. cond (leb b (e.bid k)) (e.need k - o.got k) 0) same
      ∙ cond-false (leb b (e.bid g)) (e.need g - o.got g) 0 (lt-leb b (e.bid g) low)

  -- No grid gets more than its need.
  segment_served : (g : ℕ) → g < 16 → (segment A e b o).got g ≤ e.need g
  segment_served g h =
      elim (cases_lt (e.bid g) b) [
        | inl low ↦ omega (arith, segment_fair.bounded g, claim_of_other g h low, c.served g h)
        | inr high ↦ omega (arith, segment_fair.bounded g, claim_of_buyer g h high, c.served g h)
      ]

  -- Where the want is used up, each buyer gets its need.
  segment_all_got :
      total o.award + sum (claims e o.got b) ≤ total (segment A e b o).award
      → (g : ℕ) → g < 16 → b ≤ e.bid g → e.need g ≡ (segment A e b o).got g
  segment_all_got done g h high =
      let whole = segment_fair.full (omega (arith, segment_worked.within_goal)) in
      omega (arith, ap (λ xs. get_or xs g 0) whole, claim_of_buyer g h high, c.served g h)

  -- Who bids less gets nothing in it.
  segment_others : (g : ℕ) → g < 16 → e.bid g < b → (segment A e b o).got g ≡ o.got g
  segment_others g h low = omega (arith, segment_fair.bounded g, claim_of_other g h low)

  -- Each buyer so far has its need, or nothing more can be taken up to its bid.
  segment_buyers :
      (g : ℕ) → g < 16 → e.bid g < suc b
      → (e.need g ≡ (segment A e b o).got g) ⊎ ((8 * suc (e.bid g) ≤ 8 * suc b) × FullBelow A e (8 * suc (e.bid g)) (segment A e b o).award)
  segment_buyers g h less =
      elim (cases_lt (e.bid g) b) [
        | inl low ↦
            elim (c.buyers g h low) [
              | inl got ↦ inl (got ∙ sym (segment_others g h low))
              | inr full ↦ inr (
                omega arith,
                λ l under.
                    full_below_carried A e laws o.next o.award (segment A e b o).award segment_below l (omega (arith, full.0)) (full.1 l under),
              )
            ]
        | inr high ↦
            elim segment_worked.exhausted [
              | inl full ↦ inr (omega arith, λ l under. full l (omega arith))
              | inr done ↦ inl (segment_all_got done g h high)
            ]
      ]

  -- One segment more.
  pub cleared_more : Cleared A e (suc b) (segment A e b o)
  cleared_more = record {
    in_set = segment_worked.in_set;
    kept = segment_worked.kept;
    support = segment_worked.support;
    behind = omega arith;
    filled = segment_worked.filled;
    served = segment_served;
    exhausted = elim segment_worked.exhausted [ inl full ↦ inl full | inr done ↦ inr (λ g h above. segment_all_got done g h (omega arith)) ];
    buyers = segment_buyers;
  }

-- All the segments below n.
pub cleared_below : (A : AwardSet) (e : Entries) → Lawful 256 A → Ranged e → (n : ℕ) → Cleared A e n (segments_below A e n)
unfolding segments_below
cleared_below A e laws ranged zero = cleared_none A e laws
cleared_below A e laws ranged (suc b) =
    let o = segments_below A e b in
    let c = cleared_below A e laws ranged b in
    elim (cases_Bool (some_bids e b)) [
      | inl some ↦ rw some (cleared_more A e laws ranged b o c)
      | inr nobody ↦ rw nobody (cleared_skip A e b o nobody c)
    ]

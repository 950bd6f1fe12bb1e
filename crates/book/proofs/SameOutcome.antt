-- Clearing sees of the entries the capacities, the bids, the needs, and the levels where there is capacity.
use Rattle.std.proofs.Common.{◌≡◌, ℕ, zero, suc, ◌+◌, ◌-◌, ◌*◌, ◌/◌, ◌<◌, cond, ◌&&◌, eqb, ltb, leb, List, ◌∷◌, map, get_or, sum, sym, refl, ap, ◌∙◌, inl, inr}
use Rattle.std.proofs.lemmas.Bool.{cases_Bool, ltb-true}
use Rattle.lawful.specs.Awards.{Award, AwardSet}
use Rattle.market.specs.Sharing.{shares_of}
use Rattle.outcome.specs.Entries.{Entries, level, any_below, some_bids}
use Rattle.outcome.specs.Groups.{members_from, members, total, work_tiers, work_group}
use Rattle.outcome.specs.Outcome.{Swept, sweep, Outcome, claims_from, claims, at, segment, segments_below, outcome}

module _
    (A : AwardSet) (e f : Entries) (capacities : e.capacity ≡ f.capacity) (bids : e.bid ≡ f.bid) (needs : e.need ≡ f.need)
    (levels : (p : ℕ) → 0 < e.capacity p → level e p ≡ level f p) where
  -- A place has a tier at a level in the one where it has one in the other.
  tier_same : (l p : ℕ) → (ltb 0 (e.capacity p) && eqb (level e p) l) ≡ (ltb 0 (f.capacity p) && eqb (level f p) l)
  tier_same l p =
      elim (cases_Bool (ltb 0 (e.capacity p))) [
        | inl some ↦ ap (λ x. ltb 0 (e.capacity p) && eqb x l) (levels p (ltb-true 0 (e.capacity p) some)) ∙ ap (λ c. ltb 0 (c p) && eqb (level f p) l) capacities
        | inr none ↦ ap (λ t. t && eqb (level e p) l) none ∙ sym (ap (λ t. t && eqb (level f p) l) (sym (ap (λ c. ltb 0 (c p)) capacities) ∙ none))
      ]

  -- The groups have the same places.
  members_same : (l n p : ℕ) → members_from e l n p ≡ members_from f l n p
  unfolding members_from
  members_same l zero p = refl
  members_same l (suc n) p =
      ap (λ t. cond t (p ∷ members_from e l n (suc p)) (members_from e l n (suc p))) (tier_same l p)
      ∙ ap (λ ps. cond (ltb 0 (f.capacity p) && eqb (level f p) l) (p ∷ ps) ps) (members_same l n (suc p))

  -- A group takes the same.
  group_same : (goal l : ℕ) (z : Award) → work_group A e goal l z ≡ work_group A f goal l z
  group_same goal l z =
      ap (λ ps. work_tiers A goal ps (map e.capacity ps) z) (members_same l 256 0) ∙ ap (λ c. work_tiers A goal (members f l) (map c (members f l)) z) capacities

  -- Any number of groups takes the same.
  sweep_same : (goal low n : ℕ) (s : Swept) → sweep A e goal low n s ≡ sweep A f goal low n s
  unfolding sweep
  sweep_same goal low zero s = refl
  sweep_same goal low (suc n) s =
      ap (λ z. swept (sweep A e goal low n s) z) (group_same goal (low + n) (sweep A e goal low n s).award)
      ∙ ap (λ t. swept t (work_group A f goal (low + n) t.award)) (sweep_same goal low n s)
    where
      swept : Swept → Award → Swept
      swept t z = record { award = z; price = cond (ltb (total t.award) (total z)) ((low + n) / 8) t.price }

  -- The buyers claim the same.
  claims_same : (got : ℕ → ℕ) (b n g : ℕ) → claims_from e got b n g ≡ claims_from f got b n g
  unfolding claims_from
  claims_same got b zero g = refl
  claims_same got b (suc n) g =
      ap (λ x. cond (leb b (x g)) (e.need g - got g) 0 ∷ claims_from e got b n (suc g)) bids
      ∙ ap (λ x. cond (leb b (f.bid g)) (x g - got g) 0 ∷ claims_from e got b n (suc g)) needs
      ∙ ap (λ cs. cond (leb b (f.bid g)) (f.need g - got g) 0 ∷ cs) (claims_same got b n (suc g))

  -- The same prices are bid.
  pub some_bids_same : (b : ℕ) → some_bids e b ≡ some_bids f b
  some_bids_same b =
      ap (λ x. any_below 16 (λ g. ltb 0 (e.need g) && eqb (x g) b)) bids ∙ ap (λ x. any_below 16 (λ g. ltb 0 (x g) && eqb (f.bid g) b)) needs

  -- A segment is the same.
  segment_same : (b : ℕ) (o : Outcome) → segment A e b o ≡ segment A f b o
  segment_same b o =
      let goal = λ (wanted : List ℕ). total o.award + sum wanted in
      let before : Swept = record { award = o.award; price = 0 } in
      ap (λ wanted. made b o wanted (sweep A e (goal wanted) o.next (8 * suc b - o.next) before)) (claims_same o.got b 16 0)
      ∙ ap (λ s. made b o (claims f o.got b) s) (sweep_same (goal (claims f o.got b)) o.next (8 * suc b - o.next) before)
    where
      made : ℕ → Outcome → List ℕ → Swept → Outcome
      made b o wanted s =
          let taken = total s.award - total o.award in
          let given = shares_of taken wanted in
          record {
            award = s.award;
            got = λ g. o.got g + get_or given g 0;
            quantity = at b taken o.quantity;
            price = at b s.price o.price;
            share = at b (λ g. get_or given g 0) o.share;
            next = 8 * suc b;
          }

  -- The segments below any bid are the same.
  pub segments_same : (n : ℕ) → segments_below A e n ≡ segments_below A f n
  unfolding segments_below
  segments_same zero = refl
  segments_same (suc b) =
      ap (λ t. cond t (segment A e b (segments_below A e b)) (segments_below A e b)) (some_bids_same b)
      ∙ ap (λ x. cond (some_bids f b) x (segments_below A e b)) (segment_same b (segments_below A e b))
      ∙ ap (λ o. cond (some_bids f b) (segment A f b o) o) (segments_same b)

-- Entries that agree in capacities, bids and needs, and in levels where there is capacity, have the same outcome.
pub outcome_same :
    (A : AwardSet) (e f : Entries) → e.capacity ≡ f.capacity → e.bid ≡ f.bid → e.need ≡ f.need
    → ((p : ℕ) → 0 < e.capacity p → level e p ≡ level f p) → outcome A e ≡ outcome A f
outcome_same A e f capacities bids needs levels = segments_same A e f capacities bids needs levels 200001

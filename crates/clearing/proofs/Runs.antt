-- The run of the sellers' sequence at a level is the group at that level.
use Rattle.std.proofs.Common.{◌≡◌, ℕ, zero, suc, ◌+◌, ◌-◌, ◌<◌, ◌≤◌, Bool, true, ◌&&◌, eqb, ltb, ◌⊎◌, List, [], ◌∷◌, map, length, get_or, take, drop, sym, refl, ap, ◌∙◌, subst, inl, inr, arith}
use Rattle.std.specs.List.{AllByRecursion as All}
use Rattle.std.proofs.ByRecursion.{All-from_get_or, all_from_every, All-weaker, All-take}
use Rattle.std.proofs.lemmas.List.{length-map, length-take, length-drop, get_or-map, get_or-take, get_or-drop}
use Rattle.std.proofs.lemmas.Bool.{cases_Bool, cases_eq, cases_lt, and_parts, and_from, ltb-true, lt-ltb, eqb-true, eq-eqb}
use Rattle.market.specs.Maxima.{place_count}
use Rattle.market.specs.declared.tiers.Tier.{Tier}
use Rattle.outcome.specs.Entries.{Entries, level}
use Rattle.outcome.specs.Groups.{members_from, members}
use Rattle.clearing.specs.Awarded.{places_of, capacities_of}
use Rattle.clearing.specs.Sequence.{SequenceFrom, level_of, place_of}
use Rattle.clearing.proofs.Collecting.{some_tier}

-- p stands in a list of numbers
abbrev pub In : ℕ → List ℕ → Type 0
In p [] = ⊥
In p (x ∷ xs) = (p ≡ x) ⊎ In p xs

-- each number is below all that follow it
abbrev Climbs : List ℕ → Type 0
Climbs [] = Unit {0}
Climbs (x ∷ xs) = All (λ y. x < y) xs × Climbs xs

all_in : (P : ℕ → Type 0) (xs : List ℕ) (p : ℕ) → All P xs → In p xs → P p
all_in P [] p h i = absurd i
all_in P (x ∷ xs) p h (inl q) = subst P (sym q) h.0
all_in P (x ∷ xs) p h (inr i) = all_in P xs p h.1 i

in_at : (xs : List ℕ) (k : ℕ) → k < length xs → In (get_or xs k 0) xs
in_at [] k l = absurd (omega arith)
in_at (x ∷ xs) zero l = inl refl
in_at (x ∷ xs) (suc k) l = inr (in_at xs k (omega arith))

at_in : (xs : List ℕ) (p : ℕ) → In p xs → (k : ℕ) × (k < length xs) × (get_or xs k 0 ≡ p)
at_in [] p i = absurd i
at_in (x ∷ xs) p (inl q) = (0, omega arith, sym q)
at_in (x ∷ xs) p (inr i) = let h = at_in xs p i in (suc h.0, omega (arith, h.1), h.2)

climbs_from_get_or : (xs : List ℕ) → ((a b : ℕ) → a < b → b < length xs → get_or xs a 0 < get_or xs b 0) → Climbs xs
climbs_from_get_or [] h = tt
climbs_from_get_or (x ∷ xs) h =
    (All-from_get_or (λ y. x < y) xs 0 (λ b l. h 0 (suc b) (omega arith) (omega arith)), climbs_from_get_or xs (λ a b l m. h (suc a) (suc b) (omega arith) (omega arith)))

nothing_in : (xs : List ℕ) → ((p : ℕ) → In p xs → ⊥) → xs ≡ []
nothing_in [] h = refl
nothing_in (x ∷ xs) h = absurd (h x (inl refl))

-- Two climbing lists with the same numbers are the same.
rising_unique : (xs ys : List ℕ) → Climbs xs → Climbs ys → ((p : ℕ) → In p xs → In p ys) → ((p : ℕ) → In p ys → In p xs) → xs ≡ ys
rising_unique [] ys cx cy there back = sym (nothing_in ys back)
rising_unique (x ∷ xs) [] cx cy there back = absurd (there x (inl refl))
rising_unique (x ∷ xs) (y ∷ ys) cx cy there back =
    let first : x ≡ y =
    elim (there x (inl refl)) [
      | inl q ↦ q
      | inr i ↦ elim (back y (inl refl)) [
        | inl q ↦ sym q
        | inr j ↦ absurd (let no : ⊥ = omega (arith, all_in (λ z. y < z) ys x cy.0 i, all_in (λ z. x < z) xs y cx.0 j) in no)
      ]
    ] in
    let rest : xs ≡ ys =
    rising_unique xs ys cx.1 cy.1
    (λ p i. elim (there p (inr i)) [ inl q ↦ absurd (let no : ⊥ = omega (arith, all_in (λ z. x < z) xs p cx.0 i) in no) | inr j ↦ j ])
    (λ p i. elim (back p (inr i)) [ inl q ↦ absurd (let no : ⊥ = omega (arith, all_in (λ z. y < z) ys p cy.0 i) in no) | inr j ↦ j ]) in
    cc

module _ (e : Entries) (l : ℕ) where
  -- a tier with the level l stands at p
  abbrev stands : ℕ → Bool
  stands p = ltb 0 (e.capacity p) && eqb (level e p) l

  from_members : (n p q : ℕ) → In q (members_from e l n p) → (p ≤ q) × (q < p + n) × (stands q ≡ true)
  unfolding members_from
  from_members zero p q i = absurd i
  from_members (suc n) p q i =
      elim (cases_Bool (stands p)) [
        | inl s ↦ elim (rw s at i) [
          | inl r ↦ (omega arith, omega arith, ap stands r ∙ s)
          | inr j ↦ let h = from_members n (suc p) q j in (omega (arith, h.0), omega (arith, h.1), h.2)
        ]
        | inr s ↦ let h = from_members n (suc p) q (rw s at i) in (omega (arith, h.0), omega (arith, h.1), h.2)
      ]

  to_members : (n p q : ℕ) → p ≤ q → q < p + n → stands q ≡ true → In q (members_from e l n p)
  unfolding members_from
  to_members zero p q a b s = absurd (omega arith)
  to_members (suc n) p q a b s =
      elim (cases_eq q p) [
        | inl r ↦ rw (ap stands (sym r) ∙ s) (inl r)
        | inr r ↦
            let i : In q (members_from e l n (suc p)) = to_members n (suc p) q (omega (arith, r)) (omega arith) s in
            elim (cases_Bool (stands p)) [ inl t ↦ rw t (inr i) | inr t ↦ rw t i ]
      ]

  all_members : (n p : ℕ) → All (λ q. p ≤ q) (members_from e l n p)
  unfolding members_from
  all_members zero p = tt
  all_members (suc n) p =
      let later = All-weaker (λ q. suc p ≤ q) (λ q. p ≤ q) (λ q h. omega arith) (members_from e l n (suc p)) (all_members n (suc p)) in
      elim (cases_Bool (stands p)) [ inl s ↦ rw s (omega arith, later) | inr s ↦ rw s later ]

  members_climb : (n p : ℕ) → Climbs (members_from e l n p)
  unfolding members_from
  members_climb zero p = tt
  members_climb (suc n) p =
      let rest = members_climb n (suc p) in
      elim (cases_Bool (stands p)) [ inl s ↦ rw s (all_members n (suc p), rest) | inr s ↦ rw s rest ]

-- The levels of the sequence rise.
pub levels_rise :
    (e : Entries) (m : ℕ) (ts : List Tier) → SequenceFrom e m ts → (i j : ℕ) (d : Tier) → i ≤ j → j < length ts → level_of (get_or ts i d) ≤ level_of (get_or ts j d)
levels_rise e m ts s i j d le lj =
    elim (cases_eq i j) [
      | inl q ↦ rw q (omega arith)
      | inr q ↦ elim (s.rising i j d (omega (arith, q)) lj) [ inl h ↦ omega arith | inr h ↦ omega (arith, h.0) ]
    ]

-- A member of the group at l stands in the sequence, at the level l.
member_at :
    (e : Entries) (m : ℕ) (ts : List Tier) (l : ℕ) → SequenceFrom e m ts → m ≤ l → (q : ℕ) → In q (members e l)
    → (k : ℕ) × (k < length ts) × ((d : Tier) → (place_of (get_or ts k d) ≡ q) × (level_of (get_or ts k d) ≡ l))
member_at e m ts l s le q i =
    let h = from_members e l place_count 0 q i in
    let both = and_parts (ltb 0 (e.capacity q)) (eqb (level e q) l) h.2 in
    let at-l = eqb-true (level e q) l both.1 in
    let k = s.all q (omega (arith, h.1)) (ltb-true 0 (e.capacity q) both.0) (omega (arith, at-l)) in
    (k.0, k.1, λ d. (k.2 d, (s.each k.0 d k.1).2 ∙ ap (level e) (k.2 d) ∙ at-l))

-- Where no tier of the sequence has the level l, the group at l has no member.
pub no_members :
    (e : Entries) (m : ℕ) (ts : List Tier) (l : ℕ) → SequenceFrom e m ts → m ≤ l → ((k : ℕ) (d : Tier) → k < length ts → level_of (get_or ts k d) ≡ l → ⊥)
    → members e l ≡ []
no_members e m ts l s le none =
    nothing_in (members e l) (λ q i. let h = member_at e m ts l s le q i in let d = some_tier ts h.0 h.1 in none h.0 d h.1 (h.2 d).1)

capacities_of_places : (e : Entries) (ts : List Tier) → All (λ t. t.capacity ≡ e.capacity (place_of t)) ts → capacities_of ts ≡ map e.capacity (places_of ts)
capacities_of_places e [] h = refl
capacities_of_places e (t ∷ ts) h = let rest = capacities_of_places e ts h.1 in let first = h.0 in cc

-- The first j tiers are those of the level l.
module _
    (e : Entries) (m : ℕ) (ts : List Tier) (s : SequenceFrom e m ts) (j : ℕ) (within : j ≤ length ts) (l : ℕ) (from-m : m ≤ l)
    (here : (k : ℕ) (d : Tier) → k < j → level_of (get_or ts k d) ≡ l)
    (above : (k : ℕ) (d : Tier) → j ≤ k → k < length ts → l < level_of (get_or ts k d))
  where
    run_long : length (places_of (take j ts)) ≡ j
    run_long = length-map (take j ts) place_of ∙ omega (arith, length-take j ts)

    run_place : (k : ℕ) (d : Tier) → k < j → get_or (places_of (take j ts)) k 0 ≡ place_of (get_or ts k d)
    run_place k d lk =
        get_or-map place_of (take j ts) k d 0 (omega (arith, length-take j ts)) ∙ ap place_of (get_or-take j ts k d lk)

    run_climbs : Climbs (places_of (take j ts))
    run_climbs =
        climbs_from_get_or (places_of (take j ts))
        (λ a b lt lb.
        let lb' : b < j = omega (arith, run_long) in
        let in-ts : b < length ts = omega arith in
        let d = some_tier ts b in-ts in
        rw (run_place a d (omega arith), run_place b d lb')
        (elim (s.rising a b d lt in-ts) [
          | inl h ↦ absurd (let no : ⊥ = omega (arith, here a d (omega arith), here b d lb') in no)
          | inr h ↦ h.1
        ]))

    run_stands : (q : ℕ) → In q (places_of (take j ts)) → In q (members e l)
    run_stands q i =
        let h = at_in (places_of (take j ts)) q i in
        let lk : h.0 < j = omega (arith, h.1, run_long) in
        let at : h.0 < length ts = omega arith in
        let d = some_tier ts h.0 at in
        let is : place_of (get_or ts h.0 d) ≡ q = sym (run_place h.0 d lk) ∙ h.2 in
        let each = s.each h.0 d at in
        let positive : 0 < e.capacity q = subst (λ p. 0 < e.capacity p) is (omega (arith, each.0, each.1)) in
        let levelled : level e q ≡ l = sym (ap (level e) is) ∙ sym each.2 ∙ here h.0 d lk in
        to_members e l place_count 0 q (omega arith) (omega (arith, is, s.placed h.0 d at))
        (and_from (ltb 0 (e.capacity q)) (eqb (level e q) l) (lt-ltb 0 (e.capacity q) positive) (eq-eqb (level e q) l levelled))

    stands_run : (q : ℕ) → In q (members e l) → In q (places_of (take j ts))
    stands_run q i =
        let h = member_at e m ts l s from-m q i in
        let k = h.0 in
        let d = some_tier ts k h.1 in
        let lk : k < j = elim (cases_lt k j) [ inl p ↦ p | inr p ↦ absurd (let no : ⊥ = omega (arith, above k d p h.1, (h.2 d).1) in no) ] in
        let is : get_or (places_of (take j ts)) k 0 ≡ q = run_place k d lk ∙ (h.2 d).0 in
        subst (λ z. In z (places_of (take j ts))) is (in_at (places_of (take j ts)) k (omega (arith, run_long)))

    pub run_is_members : places_of (take j ts) ≡ members e l
    run_is_members = rising_unique (places_of (take j ts)) (members e l) run_climbs (members_climb e l place_count 0) run_stands stands_run

    pub run_capacities : capacities_of (take j ts) ≡ map e.capacity (members e l)
    run_capacities =
        let Fits : Tier → Type 0 = λ t. t.capacity ≡ e.capacity (place_of t) in
        let all = All-take Fits j ts (all_from_every Fits ts (λ k d _ lk. (s.each k d lk).1)) in
        capacities_of_places e (take j ts) all ∙ ap (map e.capacity) run_is_members

    -- The tiers behind them are the sequence above the level l.
    pub run_leaves : SequenceFrom e (suc l) (drop j ts)
    run_leaves =
        let long : length (drop j ts) ≡ length ts - j = length-drop j ts in
        let read = λ (i : ℕ) (d : Tier). get_or-drop j ts i d in
        record {
          rising = λ a b d lt lb. rw (read a d, read b d) (s.rising (j + a) (j + b) d (omega arith) (omega (arith, long)));
          each = λ a d la. rw (read a d) (s.each (j + a) d (omega (arith, long)));
          placed = λ a d la. rw (read a d) (s.placed (j + a) d (omega (arith, long)));
          from = λ a d la. rw (read a d) (omega (arith, above (j + a) d (omega arith) (omega (arith, long))));
          all = λ p lp c le.
              let h = s.all p lp c (omega arith) in
              let d = some_tier ts h.0 h.1 in
              let its : level_of (get_or ts h.0 d) ≡ level e p = (s.each h.0 d h.1).2 ∙ ap (level e) (h.2 d) in
              let past : j ≤ h.0 = elim (cases_lt h.0 j) [ inl q ↦ absurd (let no : ⊥ = omega (arith, here h.0 d q, its) in no) | inr q ↦ q ] in
              let back : j + (h.0 - j) ≡ h.0 = omega arith in
              (h.0 - j, omega (arith, long, h.1), λ f. ap place_of (read (h.0 - j) f ∙ ap (λ k. get_or ts k f) back) ∙ h.2 f);
        }

-- Where a run has ended, every later tier has a higher level.
pub above_end :
    (e : Entries) (m : ℕ) (ts : List Tier) → SequenceFrom e m ts → (j l : ℕ) → 0 < j → j ≤ length ts
    → ((d : Tier) → level_of (get_or ts 0 d) ≡ l) → (j ≡ length ts) ⊎ ((d : Tier) → level_of (get_or ts j d) ≡ level_of (get_or ts 0 d) → ⊥)
    → (k : ℕ) (d : Tier) → j ≤ k → k < length ts → l < level_of (get_or ts k d)
above_end e m ts s j l lt within at ends k d le lk =
    elim ends [
      | inl q ↦ absurd (let no : ⊥ = omega arith in no)
      | inr differs ↦ omega (arith, levels_rise e m ts s 0 j d (omega arith) (omega arith), levels_rise e m ts s j k d le lk, differs d, at d)
    ]

-- What the two rounds of a group do in a lawful set: the award stays permitted, and where want is left nothing more can be taken.
use Rattle.std.proofs.Common.{◌≡◌, ℕ, zero, suc, ◌+◌, ◌-◌, ◌<◌, ◌≤◌, min, true, false, ◌&&◌, eqb, ltb, leb, ◌⊎◌, List, [], ◌∷◌, map, get_or, sum, sym, ◌∙◌, inl, inr, arith}
use Rattle.std.specs.List.{AllByRecursion as All}
use Rattle.std.proofs.ByRecursion.{All-weaker}
use Rattle.std.proofs.lemmas.Bool.{cases_Bool, cases_lt, cases_eq, and_from, both_ways, leb-false, lt-ltb, eq-eqb}
use Rattle.lawful.specs.Sums.{greatest}
use Rattle.lawful.specs.Awards.{Award, AwardSet, zero_award, raise, plus}
use Rattle.lawful.specs.Lawful.{Lawful, capped, above}
use Rattle.lawful.proofs.Sums.{sum_le, greatest_bounded}
use Rattle.lawful.proofs.Awards.{raise_at, raise_elsewhere, raise_by_none, sum_raise}
use Rattle.lawful.proofs.Rooms.{lawful_ext, higher_is_out, within_room, beyond_room}
use Rattle.lawful.proofs.Cuts.{above_keeps_laws, caps_keep_laws, capped_in, capped_at}
use Rattle.market.proofs.Shares.{shares_fair}
use Rattle.screen.specs.Rooms.{room_outside}
use Rattle.outcome.specs.Entries.{Entries, Ranged, level}
use Rattle.outcome.specs.Groups.{total, members_from, members, targets, room_over, first_round, second_round, work_group}
use Rattle.outcome.proofs.GroupGrowth.{second_grows, members_level}

-- The room over an award at a place that counts is the greatest quantity that can be taken there.
room_inside : (A : AwardSet) (z : Award) (p : ℕ) → p < 256 → room_over A z p ≡ greatest 20000 (λ q. above z A (raise zero_award p q))
room_inside A z p h = rw (lt-ltb p 256 h)

-- The room is within the bound of the figures.
pub room_bounded : (A : AwardSet) (z : Award) (p : ℕ) → p < 256 → room_over A z p ≤ 20000
room_bounded A z p h = rw (room_inside A z p h) (greatest_bounded 20000 (λ q. above z A (raise zero_award p q)))

-- the award keeps a capacity at each place
abbrev pub Kept : (ℕ → ℕ) → Award → Type 0
Kept cap z = (k : ℕ) → z k ≤ cap k

-- nothing more can be taken at the place
abbrev pub Stuck : AwardSet → (ℕ → ℕ) → Award → ℕ → Type 0
Stuck A cap z p = capped 256 cap A (raise z p 1) ≡ false

module _ (A : AwardSet) (laws : Lawful 256 A) where
  -- To take on top of an award is to raise it.
  above_raised : (z : Award) (p q : ℕ) → above z A (raise zero_award p q) ≡ A (raise z p q)
  above_raised z p q = lawful_ext 256 A (plus (raise zero_award p q) z) (raise z p q) laws (λ k l. omega arith)

  -- A member raised within the room is a member.
  pub raised_in : (z : Award) (p q : ℕ) → A z ≡ true → q ≤ room_over A z p → A (raise z p q) ≡ true
  raised_in z p q h le =
      elim (cases_lt p 256) [
        | inl l ↦
            let b : q ≤ greatest 20000 (λ r. above z A (raise zero_award p r)) = rw (room_inside A z p l) at le in
            sym (above_raised z p q) ∙ within_room 256 (above z A) p 20000 q (above_keeps_laws 256 z A laws h) b
        | inr l ↦
            let none : q ≡ 0 = omega (arith, room_outside (above z A) p l) in
            rw none (lawful_ext 256 A (raise z p 0) z laws (λ k _. raise_by_none z p k) ∙ h)
      ]

  -- Raised by one more than a room below the bound, an award is no member.
  pub raised_out : (z : Award) (p : ℕ) → p < 256 → room_over A z p < 20000 → A (raise z p (suc (room_over A z p))) ≡ false
  raised_out z p l less =
      let r = room_over A z p in
      let b : greatest 20000 (λ q. above z A (raise zero_award p q)) < suc r = omega (arith, room_inside A z p l) in
      sym (above_raised z p (suc r)) ∙ beyond_room (above z A) p 20000 (suc r) (omega arith) b

  module _ (cap : ℕ → ℕ) where
    -- A place that holds its capacity is stuck.
    pub stuck_at_capacity : (z : Award) (p : ℕ) → p < 256 → cap p ≤ z p → Stuck A cap z p
    stuck_at_capacity z p l full =
        elim (cases_Bool (capped 256 cap A (raise z p 1))) [
          | inl e ↦ absurd (omega (arith, capped_at 256 cap A (raise z p 1) e p l, raise_at z p 1))
          | inr e ↦ e
        ]

    -- A place that cannot be raised in the set is stuck.
    pub stuck_in_set : (z : Award) (p : ℕ) → A (raise z p 1) ≡ false → Stuck A cap z p
    stuck_in_set z p out =
        elim (cases_Bool (capped 256 cap A (raise z p 1))) [
          | inl e ↦ absurd (both_ways (A (raise z p 1)) out (capped_in 256 cap A (raise z p 1) e))
          | inr e ↦ e
        ]

    -- A place stays stuck as the award grows.
    pub stays_stuck : (x y : Award) (p : ℕ) → ((k : ℕ) → x k ≤ y k) → Stuck A cap x p → Stuck A cap y p
    stays_stuck x y p le out =
        higher_is_out 256 (capped 256 cap A) (raise x p 1) (raise y p 1) (caps_keep_laws 256 cap A laws) (λ k _. omega (arith, le k)) out

    -- A place raised by no more than its capacity leaves keeps it.
    raise_keeps : (z : Award) (p q : ℕ) → Kept cap z → q ≤ cap p - z p → Kept cap (raise z p q)
    raise_keeps z p q kept le k =
        elim (cases_eq k p) [
          | inl e ↦ rw e (omega (arith, raise_at z p q, kept p))
          | inr ne ↦ omega (arith, raise_elsewhere z p q k ne, kept k)
        ]

    module _ (most : (k : ℕ) → cap k ≤ 20000) (goal : ℕ) where
      -- After a step of the second round the goal is reached or its place is stuck.
      step_full :
          (z : Award) (p : ℕ) → p < 256 → Kept cap z
          → (goal ≤ total (raise z p (min (goal - total z) (min (cap p - z p) (room_over A z p)))))
          ⊎ Stuck A cap (raise z p (min (goal - total z) (min (cap p - z p) (room_over A z p)))) p
      step_full z p l kept =
          let r = room_over A z p in
          let q = min (goal - total z) (min (cap p - z p) r) in
          elim (cases_lt q (goal - total z)) [
            | inr whole ↦ inl (omega (arith, sum_raise 256 z p q l))
            | inl less ↦
                elim (cases_lt q (cap p - z p)) [
                  | inr whole ↦ inr (stuck_at_capacity (raise z p q) p l (omega (arith, raise_at z p q)))
                  | inl short ↦
                      let is-room : r ≡ q = omega arith in
                      let out = raised_out z p l (omega (arith, most p)) in
                      inr (stuck_in_set (raise z p q) p
                      (higher_is_out 256 A (raise z p (suc r)) (raise (raise z p q) p 1) laws (λ k _. grind arith) out))
                ]
          ]

      -- Where want is left after the second round, each place of the group is stuck.
      pub second_full :
          (ps : List ℕ) (z : Award) → All (λ p. p < 256) ps → Kept cap z
          → (goal ≤ total (second_round A goal ps (map cap ps) z)) ⊎ All (Stuck A cap (second_round A goal ps (map cap ps) z)) ps
      unfolding second_round
      second_full [] z small kept = inr tt
      second_full (p ∷ ps) z small kept =
          let q = min (goal - total z) (min (cap p - z p) (room_over A z p)) in
          let after = second_round A goal ps (map cap ps) (raise z p q) in
          let grows : (k : ℕ) → raise z p q k ≤ after k = second_grows A goal ps (map cap ps) (raise z p q) in
          elim (second_full ps (raise z p q) small.1 (raise_keeps z p q kept (omega arith))) [
            | inl done ↦ inl done
            | inr rest ↦
                elim (step_full z p small.0 kept) [
                  | inl done ↦ inl (omega (arith, sum_le 256 (raise z p q) after (λ k _. grows k)))
                  | inr stuck ↦ inr (stays_stuck (raise z p q) after p grows stuck, rest)
                ]
          ]

    -- The second round keeps the capacities.
    pub second_keeps : (goal : ℕ) (ps : List ℕ) (z : Award) → Kept cap z → Kept cap (second_round A goal ps (map cap ps) z)
    unfolding second_round
    second_keeps goal [] z kept = kept
    second_keeps goal (p ∷ ps) z kept =
        let q = min (goal - total z) (min (cap p - z p) (room_over A z p)) in
        second_keeps goal ps (raise z p q) (raise_keeps z p q kept (omega arith))

  -- The second round leaves a member.
  pub second_in : (goal : ℕ) (ps cs : List ℕ) (z : Award) → A z ≡ true → A (second_round A goal ps cs z) ≡ true
  unfolding second_round
  second_in goal [] cs z h = h
  second_in goal (p ∷ ps) [] z h = h
  second_in goal (p ∷ ps) (c ∷ cs) z h =
      let q = min (goal - total z) (min (c - z p) (room_over A z p)) in
      second_in goal ps cs (raise z p q) (raised_in z p q h (omega arith))

  -- The first round leaves a member.
  pub first_in : (ps ts : List ℕ) (z : Award) → A z ≡ true → A (first_round A ps ts z) ≡ true
  unfolding first_round
  first_in [] ts z h = h
  first_in (p ∷ ps) [] z h = h
  first_in (p ∷ ps) (t ∷ ts) z h =
      let q = min t (room_over A z p) in
      first_in ps ts (raise z p q) (raised_in z p q h (omega arith))

-- no place stands in the list twice
abbrev pub Apart : List ℕ → Type 0
Apart [] = Unit {0}
Apart (p ∷ ps) = All (λ k. k ≡ p → ⊥) ps × Apart ps

-- Places other than the raised one still hold nothing.
still_empty : (z : Award) (p q : ℕ) (ps : List ℕ) → All (λ k. k ≡ p → ⊥) ps → All (λ k. z k ≡ 0) ps → All (λ k. raise z p q k ≡ 0) ps
still_empty z p q [] apart empty = tt
still_empty z p q (k ∷ ps) apart empty = (raise_elsewhere z p q k apart.0 ∙ empty.0, still_empty z p q ps apart.1 empty.1)

-- The first round keeps the capacities, where the group starts with nothing and the targets are within them.
pub first_keeps :
    (A : AwardSet) (cap : ℕ → ℕ) (ps ts : List ℕ) (z : Award) → Apart ps → All (λ p. z p ≡ 0) ps
    → ((k : ℕ) → get_or ts k 0 ≤ get_or (map cap ps) k 0) → Kept cap z → Kept cap (first_round A ps ts z)
unfolding first_round
first_keeps A cap [] ts z apart empty bounded kept = kept
first_keeps A cap (p ∷ ps) [] z apart empty bounded kept = kept
first_keeps A cap (p ∷ ps) (t ∷ ts) z apart empty bounded kept =
    let q = min t (room_over A z p) in
    let target : t ≤ cap p = bounded 0 in
    let raised : Kept cap (raise z p q) = λ k.
    elim (cases_eq k p) [
      | inl e ↦ rw e (omega (arith, raise_at z p q, empty.0))
      | inr ne ↦ omega (arith, raise_elsewhere z p q k ne, kept k)
    ] in
    first_keeps A cap ps ts (raise z p q) apart.1 (still_empty z p q ps apart.0 empty.1) (λ k. bounded (suc k)) raised

-- Targets are within the capacities.
pub targets_bounded : (want : ℕ) (cs : List ℕ) (k : ℕ) → get_or (targets want cs) k 0 ≤ get_or cs k 0
targets_bounded want cs k =
    elim (cases_Bool (leb (sum cs) want)) [
      | inl e ↦ rw e (omega arith)
      | inr e ↦ rw e ((shares_fair want cs (omega (arith, leb-false (sum cs) want e))).bounded k)
    ]

-- A place of the level that has a capacity passes the test of a member.
member_test : (e : Entries) (l p : ℕ) → 0 < e.capacity p → level e p ≡ l → (ltb 0 (e.capacity p) && eqb (level e p) l) ≡ true
member_test e l p some same = and_from (ltb 0 (e.capacity p)) (eqb (level e p) l) (lt-ltb 0 (e.capacity p) some) (eq-eqb (level e p) l same)

-- Members from a place on stand there or later, and before the end.
pub members_between : (e : Entries) (l n p : ℕ) → All (λ k. (p ≤ k) × (k < p + n)) (members_from e l n p)
unfolding members_from
members_between e l zero p = tt
members_between e l (suc n) p =
    let rest =
    All-weaker (λ k. (suc p ≤ k) × (k < suc p + n)) (λ k. (p ≤ k) × (k < p + suc n)) (λ k h. (omega arith, omega arith))
    (members_from e l n (suc p)) (members_between e l n (suc p)) in
    elim (cases_Bool (ltb 0 (e.capacity p) && eqb (level e p) l)) [ inl h ↦ rw h ((omega arith, omega arith), rest) | inr h ↦ rw h rest ]

-- No place is a member twice.
pub members_apart : (e : Entries) (l n p : ℕ) → Apart (members_from e l n p)
unfolding members_from
members_apart e l zero p = tt
members_apart e l (suc n) p =
    let rest = members_from e l n (suc p) in
    let later = All-weaker (λ k. (suc p ≤ k) × (k < suc p + n)) (λ k. k ≡ p → ⊥) (λ k h same. omega arith) rest (members_between e l n (suc p)) in
    elim (cases_Bool (ltb 0 (e.capacity p) && eqb (level e p) l)) [
      | inl h ↦ rw h (later, members_apart e l n (suc p))
      | inr h ↦ rw h (members_apart e l n (suc p))
    ]

-- What holds of the members holds of each place of the level that has a capacity.
pub at_member :
    (P : ℕ → Type 0) (e : Entries) (l n p : ℕ) → All P (members_from e l n p) → (k : ℕ) → p ≤ k → k < p + n
    → 0 < e.capacity k → level e k ≡ l → P k
unfolding members_from
at_member P e l zero p all k from to some same = absurd (omega arith)
at_member P e l (suc n) p all k from to some same =
    elim (cases_eq k p) [
      | inl at ↦
          let test = member_test e l k some same in
          let here : (ltb 0 (e.capacity p) && eqb (level e p) l) ≡ true = rw at at test in
          let both : All P (p ∷ members_from e l n (suc p)) = rw here at all in
          rw at both.0
      | inr ne ↦
          elim (cases_Bool (ltb 0 (e.capacity p) && eqb (level e p) l)) [
            | inl h ↦ let both : All P (p ∷ members_from e l n (suc p)) = rw h at all in at_member P e l n (suc p) both.1 k (omega arith) (omega arith) some same
            | inr h ↦ let rest : All P (members_from e l n (suc p)) = rw h at all in at_member P e l n (suc p) rest k (omega arith) (omega arith) some same
          ]
    ]

-- The group at one level of a lawful set.
module _ (A : AwardSet) (e : Entries) (laws : Lawful 256 A) (ranged : Ranged e) (goal l : ℕ) (z : Award) where
  -- A group leaves a member.
  pub group_in : A z ≡ true → A (work_group A e goal l z) ≡ true
  group_in h =
      let ps = members e l in
      let cs = map e.capacity ps in
      let ts = targets (goal - total z) cs in
      second_in A laws goal ps cs (first_round A ps ts z) (first_in A laws ps ts z h)

  module _ (empty : (p : ℕ) → level e p ≡ l → z p ≡ 0) (kept : Kept e.capacity z) where
    -- The first round of a group keeps the capacities.
    group_first_keeps : Kept e.capacity (first_round A (members e l) (targets (goal - total z) (map e.capacity (members e l))) z)
    group_first_keeps =
        let ps = members e l in
        let cs = map e.capacity ps in
        first_keeps A e.capacity ps (targets (goal - total z) cs) z (members_apart e l 256 0)
        (All-weaker (λ p. level e p ≡ l) (λ p. z p ≡ 0) empty ps (members_level e l 256 0)) (targets_bounded (goal - total z) cs) kept

    -- A group keeps the capacities.
    pub group_keeps : Kept e.capacity (work_group A e goal l z)
    group_keeps =
        let ps = members e l in
        second_keeps A laws e.capacity goal ps (first_round A ps (targets (goal - total z) (map e.capacity ps)) z) group_first_keeps

    -- Where want is left after a group, each place of its level is stuck.
    pub group_full : (goal ≤ total (work_group A e goal l z)) ⊎ ((p : ℕ) → p < 256 → level e p ≡ l → Stuck A e.capacity (work_group A e goal l z) p)
    group_full =
        let ps = members e l in
        let first = first_round A ps (targets (goal - total z) (map e.capacity ps)) z in
        let after = work_group A e goal l z in
        let small = All-weaker (λ k. (0 ≤ k) × (k < 0 + 256)) (λ k. k < 256) (λ k h. omega arith) ps (members_between e l 256 0) in
        elim (second_full A laws e.capacity ranged.capacities goal ps first small group_first_keeps) [
          | inl done ↦ inl done
          | inr all ↦ inr (λ p h same.
              elim (cases_eq (e.capacity p) 0) [
                | inl none ↦ stuck_at_capacity A laws e.capacity after p h (omega arith)
                | inr some ↦ at_member (Stuck A e.capacity after) e l 256 0 all p (omega arith) (omega arith) (omega arith) same
              ])
        ]

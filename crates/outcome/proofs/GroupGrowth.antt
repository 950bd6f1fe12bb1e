-- What the two rounds of a group leave of an award: no place falls, other levels keep what they have, and the total keeps the goal.
use Rattle.std.proofs.Common.{◌≡◌, ℕ, zero, suc, ◌+◌, ◌-◌, ◌≤◌, min, cond, ◌&&◌, eqb, ltb, leb, List, [], ◌∷◌, map, sum, refl, ap, ◌∙◌, inl, inr, arith}
use Rattle.std.specs.List.{AllByRecursion as All}
use Rattle.std.proofs.lemmas.List.Sums.{sum_by-cons}
use Rattle.std.proofs.ByRecursion.{All-weaker}
use Rattle.std.proofs.lemmas.Bool.{cases_Bool, cases_lt, and_parts, eqb-true, leb-true, leb-false}
use Rattle.lawful.specs.Sums.{sum_to}
use Rattle.lawful.specs.Awards.{Award, AwardSet, raise}
use Rattle.lawful.proofs.Sums.{sum_plus, sum_place, sum_place_outside}
use Rattle.lawful.proofs.Awards.{raise_elsewhere}
use Rattle.market.proofs.Shares.{shares_fair}
use Rattle.outcome.specs.Entries.{Entries, level}
use Rattle.outcome.specs.Groups.{total, members_from, members, targets, room_over, first_round, second_round, work_group}

-- A raised award holds no less.
raise_grows : (z : Award) (p q k : ℕ) → z k ≤ raise z p q k
raise_grows z p q k = omega arith

-- To raise a place, of those that count or not, adds no more than itself to the sum.
sum_raise_le : (n : ℕ) (z : Award) (p q : ℕ) → sum_to n (raise z p q) ≤ sum_to n z + q
sum_raise_le n z p q =
    let parts = sum_plus n z (λ k. cond (eqb k p) q 0) in
    elim (cases_lt p n) [ inl l ↦ omega (arith, parts, sum_place n p q l) | inr l ↦ omega (arith, parts, sum_place_outside n p q l) ]

-- The first round lowers no place.
pub first_grows : (A : AwardSet) (ps ts : List ℕ) (z : Award) (k : ℕ) → z k ≤ first_round A ps ts z k
unfolding first_round
first_grows A [] ts z k = omega arith
first_grows A (p ∷ ps) [] z k = omega arith
first_grows A (p ∷ ps) (t ∷ ts) z k =
    let q = min t (room_over A z p) in
    omega (arith, raise_grows z p q k, first_grows A ps ts (raise z p q) k)

-- The second round lowers no place.
pub second_grows : (A : AwardSet) (goal : ℕ) (ps cs : List ℕ) (z : Award) (k : ℕ) → z k ≤ second_round A goal ps cs z k
unfolding second_round
second_grows A goal [] cs z k = omega arith
second_grows A goal (p ∷ ps) [] z k = omega arith
second_grows A goal (p ∷ ps) (c ∷ cs) z k =
    let q = min (goal - total z) (min (c - z p) (room_over A z p)) in
    omega (arith, raise_grows z p q k, second_grows A goal ps cs (raise z p q) k)

-- The first round changes only the places of the group.
pub first_elsewhere : (A : AwardSet) (ps ts : List ℕ) (z : Award) (k : ℕ) → All (λ p. k ≡ p → ⊥) ps → first_round A ps ts z k ≡ z k
unfolding first_round
first_elsewhere A [] ts z k h = refl
first_elsewhere A (p ∷ ps) [] z k h = refl
first_elsewhere A (p ∷ ps) (t ∷ ts) z k h =
    let q = min t (room_over A z p) in
    first_elsewhere A ps ts (raise z p q) k h.1 ∙ raise_elsewhere z p q k h.0

-- The second round changes only the places of the group.
pub second_elsewhere : (A : AwardSet) (goal : ℕ) (ps cs : List ℕ) (z : Award) (k : ℕ) → All (λ p. k ≡ p → ⊥) ps → second_round A goal ps cs z k ≡ z k
unfolding second_round
second_elsewhere A goal [] cs z k h = refl
second_elsewhere A goal (p ∷ ps) [] z k h = refl
second_elsewhere A goal (p ∷ ps) (c ∷ cs) z k h =
    let q = min (goal - total z) (min (c - z p) (room_over A z p)) in
    second_elsewhere A goal ps cs (raise z p q) k h.1 ∙ raise_elsewhere z p q k h.0

-- The first round takes no more than the targets together.
pub first_within_targets : (A : AwardSet) (ps ts : List ℕ) (z : Award) → total (first_round A ps ts z) ≤ total z + sum ts
unfolding first_round
first_within_targets A [] ts z = omega arith
first_within_targets A (p ∷ ps) [] z = omega arith
first_within_targets A (p ∷ ps) (t ∷ ts) z =
    let q = min t (room_over A z p) in
    omega (arith, first_within_targets A ps ts (raise z p q), sum_raise_le 256 z p q, sum_by-cons (λ x. x) t ts)

-- The second round keeps the goal.
pub second_within_goal : (A : AwardSet) (goal : ℕ) (ps cs : List ℕ) (z : Award) → total z ≤ goal → total (second_round A goal ps cs z) ≤ goal
unfolding second_round
second_within_goal A goal [] cs z le = le
second_within_goal A goal (p ∷ ps) [] z le = le
second_within_goal A goal (p ∷ ps) (c ∷ cs) z le =
    let q = min (goal - total z) (min (c - z p) (room_over A z p)) in
    second_within_goal A goal ps cs (raise z p q) (omega (arith, sum_raise_le 256 z p q))

-- The targets together are no more than the want.
pub targets_within : (want : ℕ) (cs : List ℕ) → sum (targets want cs) ≤ want
targets_within want cs =
    elim (cases_Bool (leb (sum cs) want)) [
      | inl e ↦ rw e (leb-true (sum cs) want e)
      | inr e ↦ rw e (omega (arith, (shares_fair want cs (omega (arith, leb-false (sum cs) want e))).whole))
    ]

-- Every member of a group stands at its level.
pub members_level : (e : Entries) (l n p : ℕ) → All (λ k. level e k ≡ l) (members_from e l n p)
unfolding members_from
members_level e l zero p = tt
members_level e l (suc n) p =
    let rest = members_level e l n (suc p) in
    elim (cases_Bool (ltb 0 (e.capacity p) && eqb (level e p) l)) [
      | inl h ↦ rw h (eqb-true (level e p) l (and_parts (ltb 0 (e.capacity p)) (eqb (level e p) l) h).1, rest)
      | inr h ↦ rw h rest
    ]

-- A place at another level is no member.
pub not_member : (e : Entries) (l n p k : ℕ) → (level e k ≡ l → ⊥) → All (λ m. k ≡ m → ⊥) (members_from e l n p)
not_member e l n p k ne =
    All-weaker (λ m. level e m ≡ l) (λ m. k ≡ m → ⊥) (λ m at_level same. ne (ap (level e) same ∙ at_level)) (members_from e l n p) (members_level e l n p)

-- A group lowers no place.
pub group_grows : (A : AwardSet) (e : Entries) (goal l : ℕ) (z : Award) (p : ℕ) → z p ≤ work_group A e goal l z p
group_grows A e goal l z p =
    let ps = members e l in
    let cs = map e.capacity ps in
    let ts = targets (goal - total z) cs in
    omega (arith, first_grows A ps ts z p, second_grows A goal ps cs (first_round A ps ts z) p)

-- A group changes no place at another level.
pub group_only : (A : AwardSet) (e : Entries) (goal l : ℕ) (z : Award) (p : ℕ) → (level e p ≡ l → ⊥) → work_group A e goal l z p ≡ z p
group_only A e goal l z p ne =
    let ps = members e l in
    let cs = map e.capacity ps in
    let ts = targets (goal - total z) cs in
    let apart = not_member e l 256 0 p ne in
    second_elsewhere A goal ps cs (first_round A ps ts z) p apart ∙ first_elsewhere A ps ts z p apart

-- A group that starts within the goal ends within it.
pub group_within_goal : (A : AwardSet) (e : Entries) (goal l : ℕ) (z : Award) → total z ≤ goal → total (work_group A e goal l z) ≤ goal
group_within_goal A e goal l z le =
    let ps = members e l in
    let cs = map e.capacity ps in
    let ts = targets (goal - total z) cs in
    second_within_goal A goal ps cs (first_round A ps ts z) (omega (arith, first_within_targets A ps ts z, targets_within (goal - total z) cs))

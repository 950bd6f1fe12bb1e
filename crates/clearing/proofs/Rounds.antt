-- The steps of the two rounds, tier by tier.
use Rattle.std.proofs.Common.{◌≡◌, ℕ, ◌+◌, ◌-◌, ◌<◌, ◌≤◌, min, List, ◌∷◌, length, get_or, drop, sum, sym, refl, ap, ◌∙◌, inl, inr, arith}
use Rattle.std.proofs.lemmas.List.{drop_more, at_drop_all}
use Rattle.std.proofs.lemmas.List.Sums.{sum_by-cons}
use Rattle.std.proofs.lemmas.Bool.{cases_lt, le-leb, lt-leb}
use Rattle.lawful.specs.Awards.{Award, AwardSet, raise}
use Rattle.market.specs.Sharing.{part, share_at, shares_from, shares_of}
use Rattle.market.specs.declared.tiers.Tier.{Tier}
use Rattle.market.proofs.Shares.{part_rises, part_at_all, shares_fair}
use Rattle.outcome.specs.Groups.{total, targets, room_over, first_round, second_round, work_tiers}
use Rattle.clearing.specs.Awarded.{places_of, capacities_of}

-- The first round over tiers, by their shares of the quantity q over claims with the sum n, from a running sum p on.
abbrev pub first_from : AwardSet → ℕ → ℕ → ℕ → List Tier → Award → Award
first_from A q n p tiers z = first_round A (places_of tiers) (shares_from q n p (capacities_of tiers)) z

-- The second round over tiers.
abbrev pub second_from : AwardSet → ℕ → List Tier → Award → Award
second_from A goal tiers z = second_round A goal (places_of tiers) (capacities_of tiers) z

-- What is left of the tiers begins with the tier that is read.
drop_read : (tiers : List Tier) (i : ℕ) (t : Tier) → i < length tiers → t ≡ get_or tiers i t → drop i tiers ≡ t ∷ drop (i + 1) tiers
drop_read tiers i t l e = drop_more tiers i t l ∙ ap (λ u. u ∷ drop (i + 1) tiers) (sym e)

-- The capacities left, one tier on.
pub left_more : (tiers : List Tier) (i : ℕ) (t : Tier) → i < length tiers → t ≡ get_or tiers i t
    → sum (capacities_of (drop i tiers)) ≡ t.capacity + sum (capacities_of (drop (i + 1) tiers))
left_more tiers i t l e =
    ap (λ ts. sum (capacities_of ts)) (drop_read tiers i t l e) ∙ sum_by-cons (λ x. x) t.capacity (capacities_of (drop (i + 1) tiers))

-- One tier of the first round: it took r, and y is the award then.
pub first_step : (A : AwardSet) (q n p p' : ℕ) (tiers : List Tier) (z y : Award) (i s r : ℕ) (t : Tier) → i < length tiers → t ≡ get_or tiers i t
    → p' ≡ p + t.capacity → s ≡ share_at q n p t.capacity → r ≡ min s (room_over A z t.place.number) → y ≡ raise z t.place.number r
    → first_from A q n p' (drop (i + 1) tiers) y ≡ first_from A q n p (drop i tiers) z
unfolding first_round
first_step A q n p p' tiers z y i s r t l is on share took award =
    let k = t.place.number in
    let rest = drop (i + 1) tiers in
    let so : y ≡ raise z k (min (share_at q n p t.capacity) (room_over A z k)) = award ∙ ap (raise z k) (took ∙ ap (λ v. min v (room_over A z k)) share) in
    ap (λ m. first_from A q n m rest y) on ∙ ap (first_from A q n (p + t.capacity) rest) so ∙ sym (ap (λ ts. first_from A q n p ts z) (drop_read tiers i t l is))

pub first_done : (A : AwardSet) (q n p : ℕ) (tiers : List Tier) (z : Award) (i : ℕ) → length tiers ≤ i → first_from A q n p (drop i tiers) z ≡ z
unfolding first_round
first_done A q n p tiers z i l = at_drop_all (λ ts. first_from A q n p ts z) tiers i l

-- One tier of the second round: it took r of what was left, and y is the award then.
pub second_step : (A : AwardSet) (goal : ℕ) (tiers : List Tier) (z y : Award) (i left r : ℕ) (t : Tier) → i < length tiers → t ≡ get_or tiers i t
    → total z + left ≡ goal → r ≡ min (min left (t.capacity - z t.place.number)) (room_over A z t.place.number) → y ≡ raise z t.place.number r
    → second_from A goal (drop (i + 1) tiers) y ≡ second_from A goal (drop i tiers) z
unfolding second_round
second_step A goal tiers z y i left r t l is on took award =
    let k = t.place.number in
    let more : r ≡ min (goal - total z) (min (t.capacity - z k) (room_over A z k)) = omega arith in
    ap (second_from A goal (drop (i + 1) tiers)) (award ∙ ap (raise z k) more) ∙ sym (ap (λ ts. second_from A goal ts z) (drop_read tiers i t l is))

pub second_done : (A : AwardSet) (goal : ℕ) (tiers : List Tier) (z : Award) (i : ℕ) → length tiers ≤ i → second_from A goal (drop i tiers) z ≡ z
unfolding second_round
second_done A goal tiers z i l = at_drop_all (λ ts. second_from A goal ts z) tiers i l

-- The targets are the shares of the want, or of the capacities' sum if that is less.
pub targets_are_shares : (want : ℕ) (cs : List ℕ) → targets want cs ≡ shares_of (min want (sum cs)) cs
targets_are_shares want cs =
    elim (cases_lt want (sum cs)) [
      | inr h ↦
          let least : min want (sum cs) ≡ sum cs = omega arith in
          rw (le-leb (sum cs) want h, least) (sym ((shares_fair (sum cs) cs (omega arith)).full refl))
      | inl h ↦ let least : min want (sum cs) ≡ want = omega arith in rw (lt-leb (sum cs) want h, least)
    ]

-- A share by other names of the quantity, the claims and the claim.
pub share_by : (q q' n n' p c c' s : ℕ) → s ≡ share_at q' n' p c' → q' ≡ q → n' ≡ n → c' ≡ c → s ≡ share_at q n p c
share_by q q' n n' p c c' s e eq en ec = e ∙ ap (λ m. share_at m n' p c') eq ∙ ap (λ m. share_at q m p c') en ∙ ap (share_at q n p) ec

-- What was taken keeps within what the claims served so far get together.
pub taken_more : (q n p c p' t r s : ℕ) → t ≤ part q n p → s ≡ share_at q n p c → r ≤ s → p' ≡ p + c → t + r ≤ part q n p'
taken_more q n p c p' t r s le e lr on =
    let here : part q n p' ≡ part q n (p + c) = ap (part q n) on in
    omega (arith, here, part_rises q n p (p + c) (omega arith))

pub part_within : (q n p : ℕ) → q ≤ n → p ≤ n → part q n p ≤ q
part_within q n p le lp = omega (arith, part_rises q n p n lp, part_at_all q n le)

-- A share on top of what was taken keeps within the quantity.
pub share_within : (q n p c t s : ℕ) → q ≤ n → p + c ≤ n → t ≤ part q n p → s ≡ share_at q n p c → t + s ≤ q
share_within q n p c t s le lc lt e = omega (arith, taken_more q n p c (p + c) t s s lt e (omega arith) refl, part_within q n (p + c) le lc)

-- The two rounds of a group, where the first took r of the want.
pub two_rounds : (A : AwardSet) (want r : ℕ) (ps cs : List ℕ) (z y x : Award)
    → y ≡ first_round A ps (targets want cs) z → r + total z ≡ total y → r ≤ want → x ≡ second_round A (total y + (want - r)) ps cs y
    → x ≡ work_tiers A (total z + want) ps cs z
two_rounds A want r ps cs z y x first took within second =
    let goal : total y + (want - r) ≡ total z + want = omega arith in
    let asked : want ≡ total z + want - total z = omega arith in
    second ∙ ap (λ n. second_round A n ps cs y) goal ∙ ap (second_round A (total z + want) ps cs) (first ∙ ap (λ w. first_round A ps (targets w cs) z) asked)

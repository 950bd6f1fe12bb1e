-- The sharing rule is fair: shares add up to the quantity, none is above its claim, and a full quantity gives each its claim.
use Rattle.std.proofs.Common.{◌≡◌, ℕ, zero, suc, ◌+◌, ◌*◌, ◌/◌, ◌^◌, ◌<◌, ◌≤◌, true, List, [], ◌∷◌, ◌++◌, length, get_or, take, set, sum, sym, refl, ap, ◌∙◌, subst, inl, inr, mul-le-mul_left, mul-zero, mul-div_cancel, arith}
use native.Mathlib.Nat.{mul-div_cancel_left, zero-div}
use Rattle.std.proofs.lemmas.List.{take_more, take_more_set}
use Rattle.std.proofs.lemmas.List.Sums.{sum_by-cons}
use Rattle.std.proofs.lemmas.Bool.{cases_eq, eq-eqb, ne_eqb, lt-ltb, le-leb, and_from}
use Rattle.market.specs.Sharing.{part, share_at, shares_from, shares_of, Fair, can_share}
use Rattle.market.proofs.Quotients.{div_mono, div_step}

part_of_none : (q n p : ℕ) → n ≡ 0 → part q n p ≡ 0
part_of_none q n p e = rw (eq-eqb n 0 e)

part_of_some : (q n p : ℕ) → (n ≡ 0 → ⊥) → part q n p ≡ q * p / n
part_of_some q n p e = rw (ne_eqb n 0 e)

-- What claims get together rises with their running sum.
pub part_rises : (q n p r : ℕ) → p ≤ r → part q n p ≤ part q n r
part_rises q n p r le =
    elim (cases_eq n 0) [
      | inl e ↦ omega (arith, part_of_none q n p e, part_of_none q n r e)
      | inr e ↦ omega (arith, part_of_some q n p e, part_of_some q n r e, div_mono (q * p) (q * r) n (omega (arith, e)) (mul-le-mul_left q le))
    ]

-- A claim lifts it by no more than itself.
pub part_step : (q n p c : ℕ) → q ≤ n → part q n (p + c) ≤ part q n p + c
part_step q n p c le =
    elim (cases_eq n 0) [
      | inl e ↦ omega (arith, part_of_none q n (p + c) e)
      | inr e ↦ omega (arith, part_of_some q n p e, part_of_some q n (p + c) e, div_step q n p c (omega (arith, e)) le)
    ]

pub part_at_none : (q n : ℕ) → part q n 0 ≡ 0
part_at_none q n =
    elim (cases_eq n 0) [
      | inl e ↦ part_of_none q n 0 e
      | inr e ↦ part_of_some q n 0 e ∙ ap (λ m. m / n) (mul-zero q) ∙ zero-div n
    ]

-- All claims together get the quantity.
pub part_at_all : (q n : ℕ) → q ≤ n → part q n n ≡ q
part_at_all q n le =
    elim (cases_eq n 0) [
      | inl e ↦ omega (arith, part_of_none q n n e)
      | inr e ↦ part_of_some q n n e ∙ mul-div_cancel q (omega (arith, e))
    ]

-- A quantity equal to the sum of claims gives each running sum itself.
pub part_of_all : (n p : ℕ) → p ≤ n → part n n p ≡ p
part_of_all n p le =
    elim (cases_eq n 0) [
      | inl e ↦ omega (arith, part_of_none n n p e)
      | inr e ↦ part_of_some n n p e ∙ mul-div_cancel_left p (omega (arith, e))
    ]

pub part_le : (q n p : ℕ) → q ≤ n → part q n p ≤ p
part_le q n p le =
    let start : part q n (0 + p) ≡ part q n p = let e : 0 + p ≡ p = omega arith in ap (part q n) e in
    omega (arith, part_step q n 0 p le, part_at_none q n)

pub share_le : (q n p c : ℕ) → q ≤ n → share_at q n p c ≤ c
share_le q n p c le = omega (arith, part_step q n p c le)

pub length_shares : (q n p : ℕ) (cs : List ℕ) → length (shares_from q n p cs) ≡ length cs
length_shares q n p [] = refl
length_shares q n p (c ∷ cs) = ap suc (length_shares q n (p + c) cs)

-- Shares from a running sum on add up to what is left of the quantity.
sum_shares : (q n p : ℕ) (cs : List ℕ) → part q n p + sum (shares_from q n p cs) ≡ part q n (p + sum cs)
sum_shares q n p [] =
    let e : p ≡ p + 0 = omega arith in
    let same : part q n p ≡ part q n (p + 0) = ap (part q n) e in
    omega arith
sum_shares q n p (c ∷ cs) =
    let head = sum_by-cons (λ x. x) (share_at q n p c) (shares_from q n (p + c) cs) in
    let tail = sum_shares q n (p + c) cs in
    let up = part_rises q n p (p + c) (omega arith) in
    let ends : part q n (p + c + sum cs) ≡ part q n (p + sum (c ∷ cs)) = ap (part q n) (omega (arith, sum_by-cons (λ x. x) c cs)) in
    omega (arith, head, tail, up, ends)

shares_bounded : (q n p : ℕ) (cs : List ℕ) → q ≤ n → (k : ℕ) → get_or (shares_from q n p cs) k 0 ≤ get_or cs k 0
shares_bounded q n p [] le k = omega arith
shares_bounded q n p (c ∷ cs) le zero = share_le q n p c le
shares_bounded q n p (c ∷ cs) le (suc k) = shares_bounded q n (p + c) cs le k

shares_of_all : (n p : ℕ) (cs : List ℕ) → p + sum cs ≤ n → shares_from n n p cs ≡ cs
shares_of_all n p [] le = refl
shares_of_all n p (c ∷ cs) le =
    let s = sum_by-cons (λ x. x) c cs in
    let this : share_at n n p c ≡ c = omega (arith, part_of_all n (p + c) (omega (arith, s)), part_of_all n p (omega (arith, s))) in
    ap (λ x. x ∷ shares_from n n (p + c) cs) this ∙ ap (λ xs. c ∷ xs) (shares_of_all n (p + c) cs (omega (arith, s)))

-- The sharing rule is fair.
pub shares_fair : (q : ℕ) (cs : List ℕ) → q ≤ sum cs → Fair q cs (shares_of q cs)
shares_fair q cs le = record {
  long = length_shares q (sum cs) 0 cs;
  whole =
      let e : 0 + sum cs ≡ sum cs = omega arith in
      let last : part q (sum cs) (0 + sum cs) ≡ q = ap (part q (sum cs)) e ∙ part_at_all q (sum cs) le in
      omega (arith, sum_shares q (sum cs) 0 cs, part_at_none q (sum cs));
  bounded = shares_bounded q (sum cs) 0 cs le;
  full = λ e. subst (λ m. shares_from m (sum cs) 0 cs ≡ cs) (sym e) (shares_of_all (sum cs) 0 cs (omega arith));
}

-- The share at a place, by the running sum there.
pub shares_at : (q n p : ℕ) (cs : List ℕ) (k : ℕ) → k < length cs → get_or (shares_from q n p cs) k 0 ≡ share_at q n (p + sum (take k cs)) (get_or cs k 0)
shares_at q n p [] k h = absurd (let no : ⊥ = omega arith in no)
shares_at q n p (c ∷ cs) zero h = let e : p ≡ p + 0 = omega arith in ap (λ r. share_at q n r c) e
shares_at q n p (c ∷ cs) (suc k) h =
    shares_at q n (p + c) cs k (omega arith)
    ∙ ap (λ r. share_at q n r (get_or cs k 0)) (omega (arith, sum_by-cons (λ x. x) c (take k cs)))

-- A quotient of the product stays within the running sum.
pub quotient_le : (q n p : ℕ) → q ≤ n → 0 < n → q * p / n ≤ p
quotient_le q n p le pos =
    let some : n ≡ 0 → ⊥ = λ e. let no : ⊥ = omega arith in no in
    omega (arith, part_le q n p le, part_of_some q n p some)

-- One share more is written.
pub share_written :
    (q : ℕ) (cs xs : List ℕ) (i v : ℕ) → i < length cs → length xs ≡ length cs → take i xs ≡ take i (shares_of q cs)
    → v ≡ share_at q (sum cs) (sum (take i cs)) (get_or cs i 0) → take (i + 1) (set xs i v) ≡ take (i + 1) (shares_of q cs)
share_written q cs xs i v h long so_far e =
    let here : v ≡ get_or (shares_of q cs) i 0 = e ∙ ap (λ r. share_at q (sum cs) r (get_or cs i 0)) (omega arith) ∙ sym (shares_at q (sum cs) 0 cs i h) in
    let within : i < length (shares_of q cs) = omega (arith, length_shares q (sum cs) 0 cs) in
    take_more_set xs i v (omega arith) ∙ ap (λ ys. ys ++ (v ∷ [])) so_far ∙ ap (λ y. take i (shares_of q cs) ++ (y ∷ [])) here ∙ sym (take_more (shares_of q cs) i 0 within)

pub can_share_lem : (q : ℕ) (cs : List ℕ) (rows : ℕ) → rows ≡ length cs → sum cs < 2 ^ 32 → q ≤ sum cs → true ≡ can_share q cs rows
can_share_lem q cs rows e f g = sym (and_from _ _ (eq-eqb rows (length cs) e) (and_from _ _ (lt-ltb (sum cs) (2 ^ 32) f) (le-leb q (sum cs) g)))

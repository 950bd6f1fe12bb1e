-- Laws of raised awards, of the part of an award at some places, and of awards by classes.
use Rattle.std.proofs.Common.{◌≡◌, ℕ, ◌+◌, ◌<◌, ◌≤◌, Bool, true, false, cond, not, ◌||◌, eqb, sym, refl, ap, ◌∙◌, inl, inr, add-zero, arith}
use Rattle.std.proofs.lemmas.Bool.{eq-eqb, ne_eqb, cases_Bool, cases_eq, cond-true, cond-false}
use Rattle.std.proofs.lemmas.Bool.Decides.{nat_tests}
use Rattle.lawful.specs.Sums.{sum_to}
use Rattle.lawful.specs.Awards.{Award, zero_award, raise, keep, within, by_class}
use Rattle.lawful.proofs.Sums.{sum_le, sum_same, sum_plus, sum_zeros, sum_place, sum_of_sums}

-- The place that is raised holds q more.
pub raise_at : (x : Award) (p q : ℕ) → raise x p q p ≡ x p + q
raise_at x p q = ap (λ v. x p + v) (cond-true (eqb p p) q 0 (eq-eqb p p refl))

-- Another place holds what it held.
pub raise_elsewhere : (x : Award) (p q k : ℕ) → (k ≡ p → ⊥) → raise x p q k ≡ x k
raise_elsewhere x p q k ne = omega (arith, cond-false (eqb k p) q 0 (ne_eqb k p ne))

-- To raise by nothing changes nothing.
pub raise_by_none : (x : Award) (p k : ℕ) → raise x p 0 k ≡ x k
raise_by_none x p k =
    elim (cases_eq k p) [ inl e ↦ rw e (raise_at x p 0 ∙ add-zero (x p)) | inr ne ↦ raise_elsewhere x p 0 k ne ]

-- To raise by more lowers no place.
pub raise_le : (x : Award) (p q r : ℕ) → q ≤ r → (k : ℕ) → raise x p q k ≤ raise x p r k
raise_le x p q r l k = grind arith

-- A raised place below n adds to the total.
pub sum_raise : (n : ℕ) (x : Award) (p q : ℕ) → p < n → sum_to n (raise x p q) ≡ sum_to n x + q
sum_raise n x p q l = sum_plus n x (λ k. cond (eqb k p) q 0) ∙ ap (λ v. sum_to n x + v) (sum_place n p q l)

-- The part at P holds at a place of P what the award holds.
pub keep_at : (P : ℕ → Bool) (x : Award) (p : ℕ) → P p ≡ true → keep P x p ≡ x p
keep_at P x p h = cond-true (P p) (x p) 0 h

-- The part at P holds nothing at another place.
pub keep_outside : (P : ℕ → Bool) (x : Award) (p : ℕ) → P p ≡ false → keep P x p ≡ 0
keep_outside P x p h = cond-false (P p) (x p) 0 h

-- A part holds no more than the award.
pub keep_le : (P : ℕ → Bool) (x : Award) (p : ℕ) → keep P x p ≤ x p
keep_le P x p = grind arith

-- Where an award holds no more, its part holds no more.
pub keep_both_le : (P : ℕ → Bool) (x y : Award) (p : ℕ) → x p ≤ y p → keep P x p ≤ keep P y p
keep_both_le P x y p l = grind arith

-- Where the part of one award holds less than that of another, the place is one of P, and the award holds less there.
pub keep_less : (P : ℕ → Bool) (x y : Award) (p : ℕ) → keep P x p < keep P y p → (P p ≡ true) × (x p < y p)
keep_less P x y p l =
    elim (cases_Bool (P p)) [ inl e ↦ (e, omega (arith, keep_at P x p e, keep_at P y p e)) | inr e ↦ absurd (omega (arith, keep_outside P y p e)) ]

-- What is drawn from P is no more than the total.
pub within_le_sum : (n : ℕ) (P : ℕ → Bool) (x : Award) → within n P x ≤ sum_to n x
within_le_sum n P x = sum_le n (keep P x) x (λ k l. keep_le P x k)

-- An award that holds no more at each place draws no more from P.
pub within_le : (n : ℕ) (P : ℕ → Bool) (x y : Award) → ((p : ℕ) → p < n → x p ≤ y p) → within n P x ≤ within n P y
within_le n P x y h = sum_le n (keep P x) (keep P y) (λ k l. keep_both_le P x y k (h k l))

-- The same is drawn from the same places below n.
pub within_same : (n : ℕ) (P Q : ℕ → Bool) (x : Award) → ((p : ℕ) → p < n → P p ≡ Q p) → within n P x ≡ within n Q x
within_same n P Q x h = sum_same n (keep P x) (keep Q x) (λ k l. ap (λ b. cond b (x k) 0) (h k l))

-- The zero award draws nothing.
pub within_zero : (n : ℕ) (P : ℕ → Bool) → within n P zero_award ≡ 0
within_zero n P = sum_same n (keep P zero_award) (λ k. 0) (λ k l. grind arith) ∙ sum_zeros n

-- A raised place adds to what is drawn from P if it is one of P.
pub within_raise : (n : ℕ) (P : ℕ → Bool) (x : Award) (p q : ℕ) → p < n → within n P (raise x p q) ≡ within n P x + cond (P p) q 0
within_raise n P x p q l =
    sum_same n (keep P (raise x p q)) (raise (keep P x) p (cond (P p) q 0)) at_place ∙ sum_raise n (keep P x) p (cond (P p) q 0) l
  where
    at_place : (k : ℕ) → k < n → keep P (raise x p q) k ≡ raise (keep P x) p (cond (P p) q 0) k
    at_place k h =
        elim (cases_eq k p) [ inl e ↦ rw e (let d = eq-eqb p p refl in grind arith) | inr ne ↦ rw (raise_elsewhere (keep P x) p (cond (P p) q 0) k ne) (ap (λ v. cond (P k) v 0) (raise_elsewhere x p q k ne)) ]

-- What is drawn from P and what is drawn elsewhere make up the total.
pub within_and_rest : (n : ℕ) (P : ℕ → Bool) (x : Award) → within n P x + within n (λ p. not (P p)) x ≡ sum_to n x
within_and_rest n P x =
    sym (sum_plus n (keep P x) (keep (λ p. not (P p)) x)) ∙ sum_same n (λ p. keep P x p + keep (λ p. not (P p)) x p) x at_place
  where
    at_place : (k : ℕ) → k < n → keep P x k + keep (λ p. not (P p)) x k ≡ x k
    at_place k h = grind arith

-- From two sets of places that share none, both are drawn together.
pub within_either : (n : ℕ) (P Q : ℕ → Bool) (x : Award) → ((p : ℕ) → p < n → P p ≡ true → Q p ≡ false)
    → within n (λ p. P p || Q p) x ≡ within n P x + within n Q x
within_either n P Q x apart =
    sum_same n (keep (λ p. P p || Q p) x) (λ p. keep P x p + keep Q x p) at_place ∙ sum_plus n (keep P x) (keep Q x)
  where
    at_place : (k : ℕ) → k < n → keep (λ p. P p || Q p) x k ≡ keep P x k + keep Q x k
    at_place k h = let a = apart k h in grind arith

-- Equality is tested either way round.
pub eqb_swap : (a b : ℕ) → eqb a b ≡ eqb b a
eqb_swap a b = grind (arith, nat_tests)

-- The sums by class make up the total.
pub sum_by_class : (n m : ℕ) (f : ℕ → ℕ) (x : Award) → ((p : ℕ) → p < n → f p < m) → sum_to m (by_class n f x) ≡ sum_to n x
sum_by_class n m f x h =
    sum_of_sums m n (λ u p. cond (eqb (f p) u) (x p) 0)
    ∙ sum_same n (λ p. sum_to m (λ u. cond (eqb (f p) u) (x p) 0)) x
    (λ p l. sum_same m (λ u. cond (eqb (f p) u) (x p) 0) (λ u. cond (eqb u (f p)) (x p) 0) (λ u j. ap (λ b. cond b (x p) 0) (eqb_swap (f p) u)) ∙ sum_place m (f p) (x p) (h p l))

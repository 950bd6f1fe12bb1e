-- Laws of sums, of tests at each number below a bound, and of the greatest number that passes a test.
use Rattle.std.proofs.Common.{◌≡◌, ℕ, zero, suc, ◌+◌, ◌*◌, ◌<◌, ◌≤◌, min, Bool, true, false, cond, eqb, leb, sym, refl, ◌∙◌, inl, inr, add-one, arith}
use Rattle.std.proofs.lemmas.Bool.{and_parts, and_from, and_cases, eq-eqb, ne_eqb, cases_Bool, cases_lt, cases_eq, cond-true, cond-false, le-leb, lt-leb, both_ways}
use Rattle.lawful.specs.Sums.{sum_to, all_below, greatest}

-- A sum of no terms is 0.
pub sum_none : (f : ℕ → ℕ) → sum_to 0 f ≡ 0
unfolding sum_to
sum_none f = refl

-- One more term adds itself to the sum.
pub sum_suc : (n : ℕ) (f : ℕ → ℕ) → sum_to (suc n) f ≡ f n + sum_to n f
unfolding sum_to
sum_suc n f = refl

-- The same, with the count as a loop has it.
pub sum_more : (n : ℕ) (f : ℕ → ℕ) → sum_to (n + 1) f ≡ f n + sum_to n f
sum_more n f = rw add-one (sum_suc n f)

-- Where no term is greater, the sum is not greater.
pub sum_le : (n : ℕ) (f g : ℕ → ℕ) → ((k : ℕ) → k < n → f k ≤ g k) → sum_to n f ≤ sum_to n g
unfolding sum_to
sum_le zero f g h = omega arith
sum_le (suc n) f g h = omega (arith, h n (omega arith), sum_le n f g (λ k l. h k (omega arith)))

-- Sums of the same terms are the same.
pub sum_same : (n : ℕ) (f g : ℕ → ℕ) → ((k : ℕ) → k < n → f k ≡ g k) → sum_to n f ≡ sum_to n g
unfolding sum_to
sum_same zero f g h = refl
sum_same (suc n) f g h = omega (arith, h n (omega arith), sum_same n f g (λ k l. h k (omega arith)))

-- Terms that are added two by two sum to both sums together.
pub sum_plus : (n : ℕ) (f g : ℕ → ℕ) → sum_to n (λ k. f k + g k) ≡ sum_to n f + sum_to n g
unfolding sum_to
sum_plus zero f g = refl
sum_plus (suc n) f g = omega (arith, sum_plus n f g)

-- Zeros sum to 0.
pub sum_zeros : (n : ℕ) → sum_to n (λ k. 0) ≡ 0
unfolding sum_to
sum_zeros zero = refl
sum_zeros (suc n) = omega (arith, sum_zeros n)

-- Where each term keeps a bound, the sum keeps the bound times their number.
pub sum_bound : (n b : ℕ) (f : ℕ → ℕ) → ((k : ℕ) → k < n → f k ≤ b) → sum_to n f ≤ b * n
unfolding sum_to
sum_bound zero b f h = omega arith
sum_bound (suc n) b f h = omega (arith, h n (omega arith), sum_bound n b f (λ k l. h k (omega arith)))

-- Each term is at most the sum.
pub term_le_sum : (n : ℕ) (f : ℕ → ℕ) (k : ℕ) → k < n → f k ≤ sum_to n f
unfolding sum_to
term_le_sum zero f k l = omega arith
term_le_sum (suc n) f k l =
    elim (cases_eq k n) [ inl e ↦ rw e (omega arith) | inr ne ↦ omega (arith, term_le_sum n f k (omega arith)) ]

-- One number at a place that is not below n, and 0 elsewhere, sums to 0.
pub sum_place_outside : (n p q : ℕ) → n ≤ p → sum_to n (λ k. cond (eqb k p) q 0) ≡ 0
unfolding sum_to
sum_place_outside zero p q l = refl
sum_place_outside (suc n) p q l =
    omega (arith, cond-false (eqb n p) q 0 (ne_eqb n p (λ e. omega arith)), sum_place_outside n p q (omega arith))

-- One number at a place below n, and 0 elsewhere, sums to that number.
pub sum_place : (n p q : ℕ) → p < n → sum_to n (λ k. cond (eqb k p) q 0) ≡ q
unfolding sum_to
sum_place zero p q l = omega arith
sum_place (suc n) p q l =
    elim (cases_eq n p) [ inl e ↦ omega (arith, cond-true (eqb n p) q 0 (eq-eqb n p e), sum_place_outside n p q (omega arith)) | inr ne ↦ omega (arith, cond-false (eqb n p) q 0 (ne_eqb n p ne), sum_place n p q (omega arith)) ]

-- A table sums to the same by rows and by columns.
pub sum_of_sums : (n m : ℕ) (f : ℕ → ℕ → ℕ) → sum_to n (λ k. sum_to m (λ u. f k u)) ≡ sum_to m (λ u. sum_to n (λ k. f k u))
unfolding sum_to
sum_of_sums zero m f = sym (sum_zeros m)
sum_of_sums (suc n) m f = omega (arith, sum_of_sums n m f, sum_plus m (λ u. f n u) (λ u. sum_to n (λ k. f k u)))

-- Where one sum is less than another, some term is less than its like.
pub less_somewhere : (n : ℕ) (f g : ℕ → ℕ) → sum_to n f < sum_to n g → (k : ℕ) × (k < n) × (f k < g k)
unfolding sum_to
less_somewhere zero f g l = absurd (omega arith)
less_somewhere (suc n) f g l = elim (cases_lt (f n) (g n)) [ inl h ↦ (n, omega arith, h) | inr h ↦ let e = less_somewhere n f g (omega arith) in (e.0, omega arith, e.2) ]

-- Where the test passes at each number below n, it passes at any one of them.
pub all_below_at : (n : ℕ) (t : ℕ → Bool) → all_below n t ≡ true → (k : ℕ) → k < n → t k ≡ true
unfolding all_below
all_below_at zero t h k l = absurd (omega arith)
all_below_at (suc n) t h k l =
    elim (cases_eq k n) [ inl e ↦ rw e (and_parts (t n) (all_below n t) h).0 | inr ne ↦ all_below_at n t (and_parts (t n) (all_below n t) h).1 k (omega arith) ]

-- Where the test passes at any number below n, it passes at each.
pub all_below_from : (n : ℕ) (t : ℕ → Bool) → ((k : ℕ) → k < n → t k ≡ true) → all_below n t ≡ true
unfolding all_below
all_below_from zero t h = refl
all_below_from (suc n) t h = and_from (t n) (all_below n t) (h n (omega arith)) (all_below_from n t (λ k l. h k (omega arith)))

-- Where the test does not pass at each number below n, it fails at some.
pub all_below_fails : (n : ℕ) (t : ℕ → Bool) → all_below n t ≡ false → (k : ℕ) × (k < n) × (t k ≡ false)
unfolding all_below
all_below_fails zero t h = absurd (both_ways true h refl)
all_below_fails (suc n) t h =
    elim (and_cases (t n) (all_below n t) h) [ inl e ↦ (n, omega arith, e) | inr e ↦ let d = all_below_fails n t e in (d.0, omega arith, d.2) ]

-- Where the test fails at some number below n, it does not pass at each.
pub all_below_false : (n : ℕ) (t : ℕ → Bool) (k : ℕ) → k < n → t k ≡ false → all_below n t ≡ false
all_below_false n t k l h =
    elim (cases_Bool (all_below n t)) [ inl e ↦ absurd (both_ways (t k) h (all_below_at n t e k l)) | inr e ↦ e ]

-- The greatest number that passes keeps the bound.
pub greatest_bounded : (b : ℕ) (t : ℕ → Bool) → greatest b t ≤ b
unfolding greatest
greatest_bounded zero t = omega arith
greatest_bounded (suc b) t =
    elim (cases_Bool (t (suc b))) [ inl e ↦ omega (arith, cond-true (t (suc b)) (suc b) (greatest b t) e) | inr e ↦ omega (arith, cond-false (t (suc b)) (suc b) (greatest b t) e, greatest_bounded b t) ]

-- The greatest number that passes does pass, where 0 does.
pub greatest_passes : (b : ℕ) (t : ℕ → Bool) → t 0 ≡ true → t (greatest b t) ≡ true
unfolding greatest
greatest_passes zero t h = h
greatest_passes (suc b) t h =
    elim (cases_Bool (t (suc b))) [ inl e ↦ rw (cond-true (t (suc b)) (suc b) (greatest b t) e) e | inr e ↦ rw (cond-false (t (suc b)) (suc b) (greatest b t) e) (greatest_passes b t h) ]

-- No number up to the bound that passes is greater.
pub greatest_most : (b : ℕ) (t : ℕ → Bool) (q : ℕ) → q ≤ b → t q ≡ true → q ≤ greatest b t
unfolding greatest
greatest_most zero t q l h = omega arith
greatest_most (suc b) t q l h =
    elim (cases_Bool (t (suc b))) [
      | inl e ↦ omega (arith, cond-true (t (suc b)) (suc b) (greatest b t) e)
      | inr e ↦ let ne : q ≡ suc b → ⊥ = (λ d. both_ways (t (suc b)) e (rw d at h)) in omega (arith, cond-false (t (suc b)) (suc b) (greatest b t) e, greatest_most b t q (omega arith) h)
    ]

-- A greater number up to the bound fails.
pub greatest_fails_above : (b : ℕ) (t : ℕ → Bool) (q : ℕ) → q ≤ b → greatest b t < q → t q ≡ false
greatest_fails_above b t q l h =
    elim (cases_Bool (t q)) [ inl e ↦ absurd (omega (arith, greatest_most b t q l e)) | inr e ↦ e ]

-- Two tests that agree up to the bound have the same greatest number.
pub greatest_same : (b : ℕ) (s t : ℕ → Bool) → ((q : ℕ) → q ≤ b → s q ≡ t q) → greatest b s ≡ greatest b t
unfolding greatest
greatest_same zero s t h = refl
greatest_same (suc b) s t h = let e = h (suc b) (omega arith) in let d = greatest_same b s t (λ q l. h q (omega arith)) in rw (e, d)

-- Where just the numbers up to r pass, the greatest one is r, or the bound where that is less.
pub greatest_is : (b r : ℕ) (t : ℕ → Bool) → ((q : ℕ) → q ≤ b → t q ≡ leb q r) → greatest b t ≡ min r b
unfolding greatest
greatest_is zero r t h = omega arith
greatest_is (suc b) r t h =
    let d = greatest_is b r t (λ q l. h q (omega arith)) in
    let e = h (suc b) (omega arith) in
    elim (cases_lt r (suc b)) [
      | inl l ↦ omega (arith, cond-false (t (suc b)) (suc b) (greatest b t) (e ∙ lt-leb (suc b) r l), d)
      | inr l ↦ omega (arith, cond-true (t (suc b)) (suc b) (greatest b t) (e ∙ le-leb (suc b) r l))
    ]

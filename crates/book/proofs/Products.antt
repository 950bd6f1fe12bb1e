-- Products and sums of products.
use Rattle.std.proofs.Common.{◌≡◌, ℕ, zero, suc, ◌+◌, ◌-◌, ◌*◌, ◌<◌, ◌≤◌, sym, ap, ◌∙◌, inl, inr, add-mul, mul-le-mul_left, zero-mul, mul-add, arith}
use Rattle.std.proofs.lemmas.Bool.{cases_lt}
use Rattle.lawful.specs.Sums.{sum_to}
use Rattle.lawful.proofs.Sums.{sum_suc, sum_none}

-- Where an amount is greater than 0 only if one price is at most another, it costs at most as much at the one as at the other.
pub product_le : (a x y : ℕ) → (0 < a → x ≤ y) → a * x ≤ a * y
product_le a x y h =
    elim (cases_lt 0 a) [
      | inl some ↦ mul-le-mul_left a (h some)
      | inr none ↦ let z : a ≡ 0 = omega arith in rw z (omega (arith, zero-mul x, zero-mul y))
    ]

-- Where an amount is greater than 0 only if a price covers two parts, what is left of the price and the parts make up the price.
pub product_parts : (a x s t : ℕ) → (0 < a → s + t ≤ x) → a * x ≡ a * (x - (s + t)) + a * s + a * t
product_parts a x s t h =
    elim (cases_lt 0 a) [
      | inl some ↦
          let whole : x ≡ x - (s + t) + s + t = let covered = h some in omega arith in
          ap (λ y. a * y) whole ∙ (mul-add a (x - (s + t) + s) t ∙ ap (λ y. y + a * t) (mul-add a (x - (s + t)) s))
      | inr none ↦ let z : a ≡ 0 = omega arith in rw z (omega (arith, zero-mul x, zero-mul (x - (s + t)), zero-mul s, zero-mul t))
    ]

-- What is multiplied term by term is multiplied as a sum.
pub sum_times : (n : ℕ) (f : ℕ → ℕ) (c : ℕ) → sum_to n (λ k. f k * c) ≡ sum_to n f * c
unfolding sum_to
sum_times zero f c = sym (zero-mul c)
sum_times (suc n) f c = ap (λ r. f n * c + r) (sum_times n f c) ∙ sym (add-mul (f n) (sum_to n f) c)

-- Four terms more, as a sum of their own.
four_more : (m : ℕ) (f : ℕ → ℕ) → sum_to (suc (suc (suc (suc m)))) f ≡ sum_to 4 (λ k. f (m + k)) + sum_to m f
unfolding sum_to
four_more m f =
    let e : f (m + 0) ≡ f m = ap f (omega arith) in
    let e1 : f (m + 1) ≡ f (suc m) = ap f (omega arith) in
    let e2 : f (m + 2) ≡ f (suc (suc m)) = ap f (omega arith) in
    let e3 : f (m + 3) ≡ f (suc (suc (suc m))) = ap f (omega arith) in
    omega arith

-- A sum over four places of each of n units is a sum over the units.
pub sum_by_fours : (n : ℕ) (f : ℕ → ℕ) → sum_to (4 * n) f ≡ sum_to n (λ u. sum_to 4 (λ k. f (4 * u + k)))
sum_by_fours zero f = sum_none f ∙ sym (sum_none (λ u. sum_to 4 (λ k. f (4 * u + k))))
sum_by_fours (suc n) f =
    let more : 4 * suc n ≡ suc (suc (suc (suc (4 * n)))) = omega arith in
    ap (λ m. sum_to m f) more ∙ omega (arith, four_more (4 * n) f, sum_by_fours n f, sum_suc n (λ u. sum_to 4 (λ k. f (4 * u + k))))

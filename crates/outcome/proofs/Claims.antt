-- The claims of a segment's buyers, and their shares.
use Rattle.std.proofs.Common.{◌≡◌, ℕ, zero, suc, ◌+◌, ◌<◌, ◌≤◌, leb, List, [], ◌∷◌, length, get_or, sum, refl, ap, ◌∙◌, subst, inl, inr, arith}
use Rattle.std.proofs.lemmas.List.Sums.{sum_by-cons}
use Rattle.std.proofs.lemmas.Bool.{cases_Bool, leb-true}
use Rattle.lawful.specs.Sums.{sum_to}
use Rattle.lawful.proofs.Sums.{sum_none}
use Rattle.market.specs.Sharing.{Fair}
use Rattle.outcome.specs.Entries.{Entries}
use Rattle.outcome.specs.Outcome.{claims_from, claims}

-- A sum counts its first term and the rest.
pub sum_from_first : (n : ℕ) (f : ℕ → ℕ) → sum_to (suc n) f ≡ f 0 + sum_to n (λ k. f (suc k))
unfolding sum_to
sum_from_first zero f = refl
sum_from_first (suc n) f = omega (arith, sum_from_first n f)

-- The entries of a list add up to its sum.
pub sum_of_entries : (xs : List ℕ) → sum_to (length xs) (λ k. get_or xs k 0) ≡ sum xs
sum_of_entries [] = sum_none (λ k. 0)
sum_of_entries (x ∷ xs) = omega (arith, sum_from_first (length xs) (λ k. get_or (x ∷ xs) k 0), sum_of_entries xs, sum_by-cons (λ y. y) x xs)

-- There is one claim for each grid.
pub claims_long : (e : Entries) (got : ℕ → ℕ) (b n g : ℕ) → length (claims_from e got b n g) ≡ n
unfolding claims_from
claims_long e got b zero g = refl
claims_long e got b (suc n) g = ap suc (claims_long e got b n (suc g))

-- Only who bids at least b has a claim at b.
pub claims_buyers : (e : Entries) (got : ℕ → ℕ) (b n g k : ℕ) → 0 < get_or (claims_from e got b n g) k 0 → b ≤ e.bid (g + k)
unfolding claims_from
claims_buyers e got b zero g k h = absurd (omega arith)
claims_buyers e got b (suc n) g zero h =
    elim (cases_Bool (leb b (e.bid g))) [
      | inl may ↦ let same : e.bid (g + 0) ≡ e.bid g = ap e.bid (omega arith) in omega (arith, leb-true b (e.bid g) may)
      | inr may-not ↦ absurd (let none : 0 < 0 = rw may-not at h in omega arith)
    ]
claims_buyers e got b (suc n) g (suc k) h =
    let same : e.bid (suc g + k) ≡ e.bid (g + suc k) = ap e.bid (omega arith) in
    omega (arith, claims_buyers e got b n (suc g) k h)

-- Fair shares of the grids add up to the quantity.
pub shares_add_up : (e : Entries) (got : ℕ → ℕ) (b q : ℕ) (given : List ℕ) → Fair q (claims e got b) given → sum_to 16 (λ g. get_or given g 0) ≡ q
shares_add_up e got b q given fair =
    let long : length given ≡ 16 = fair.long ∙ claims_long e got b 16 0 in
    subst (λ n. sum_to n (λ g. get_or given g 0) ≡ sum given) long (sum_of_entries given) ∙ fair.whole

-- Who has a fair share at b bids at least b.
pub shares_buyers : (e : Entries) (got : ℕ → ℕ) (b q : ℕ) (given : List ℕ) → Fair q (claims e got b) given → (g : ℕ) → 0 < get_or given g 0 → b ≤ e.bid g
shares_buyers e got b q given fair g some =
    let same : e.bid (0 + g) ≡ e.bid g = ap e.bid (omega arith) in
    omega (arith, claims_buyers e got b 16 0 g (omega (arith, fair.bounded g)))

-- Accounts that are raised one by one, and sums up to a number.
use Rattle.std.proofs.Common.{◌≡◌, ℕ, zero, suc, ◌+◌, ◌≤◌, cond, ltb, ap, ◌∙◌, inl, inr, arith}
use Rattle.std.proofs.lemmas.Bool.{cases_eq, cases_lt, cond-true, cond-false, lt-ltb, le-ltb}
use Rattle.lawful.specs.Sums.{sum_to}
use Rattle.outcome.specs.Outcome.{at}
use Rattle.outcome.proofs.Segments.{at_same, at_other}

-- A sum of fewer terms is not greater.
pub sum_part_le : (m n : ℕ) (f : ℕ → ℕ) → m ≤ n → sum_to m f ≤ sum_to n f
unfolding sum_to
sum_part_le m zero f l = let none : m ≡ 0 = omega arith in rw none (omega arith)
sum_part_le m (suc n) f l =
    elim (cases_eq m (suc n)) [ inl all ↦ rw all (omega arith) | inr part ↦ omega (arith, sum_part_le m n f (omega arith)) ]

-- the accounts after those below n were raised, each by its amount
abbrev pub Raised : (ℕ → ℕ) → (ℕ → ℕ) → ℕ → (ℕ → ℕ) → Type 0
Raised before amount n after = (k : ℕ) → after k ≡ before k + cond (ltb k n) (amount k) 0

module _ (before amount : ℕ → ℕ) (n : ℕ) (after : ℕ → ℕ) (raised : Raised before amount n after) where
  -- The next account is not raised yet.
  pub raised_next : after n ≡ before n
  raised_next = omega (arith, raised n, cond-false (ltb n n) (amount n) 0 (le-ltb n n (omega arith)))

  -- An account other than the next is raised below n + 1 where it is below n.
  other_same : (k : ℕ) → (k ≡ n → ⊥) → after k ≡ before k + cond (ltb k (n + 1)) (amount k) 0
  other_same k other =
      elim (cases_lt k n) [
        | inl below ↦
            omega (arith, raised k, cond-true (ltb k n) (amount k) 0 (lt-ltb k n below), cond-true (ltb k (n + 1)) (amount k) 0 (lt-ltb k (n + 1) (omega arith)))
        | inr from ↦
            omega (arith, raised k, cond-false (ltb k n) (amount k) 0 (le-ltb k n from), cond-false (ltb k (n + 1)) (amount k) 0 (le-ltb k (n + 1) (omega (arith, other))))
      ]

  -- The next account is raised.
  pub raised_more : (later : ℕ → ℕ) → later ≡ at n (after n + amount n) after → Raised before amount (n + 1) later
  raised_more later changed k =
      elim (cases_eq k n) [
        | inl same ↦
            rw same (omega (arith, ap (λ f. f n) changed, at_same n (after n + amount n) after, raised_next, cond-true (ltb n (n + 1)) (amount n) 0 (lt-ltb n (n + 1) (omega arith))))
        | inr other ↦ ap (λ f. f k) changed ∙ at_other n (after n + amount n) after k other ∙ other_same k other
      ]

  -- Where its amount is 0, it may stay as it is.
  pub raised_nothing : amount n ≡ 0 → Raised before amount (n + 1) after
  raised_nothing none k =
      elim (cases_eq k n) [
        | inl same ↦ rw same (omega (arith, raised_next, none, cond-true (ltb n (n + 1)) (amount n) 0 (lt-ltb n (n + 1) (omega arith))))
        | inr other ↦ other_same k other
      ]

  -- Where the amounts from n on are 0, all are raised.
  pub raised_all : ((k : ℕ) → n ≤ k → amount k ≡ 0) → (k : ℕ) → after k ≡ before k + amount k
  raised_all none k =
      elim (cases_lt k n) [
        | inl below ↦ omega (arith, raised k, cond-true (ltb k n) (amount k) 0 (lt-ltb k n below))
        | inr from ↦ omega (arith, raised k, cond-false (ltb k n) (amount k) 0 (le-ltb k n from), none k from)
      ]

-- At first none is raised.
pub raised_none : (before amount : ℕ → ℕ) → Raised before amount 0 before
raised_none before amount k = omega (arith, cond-false (ltb k 0) (amount k) 0 (le-ltb k 0 (omega arith)))

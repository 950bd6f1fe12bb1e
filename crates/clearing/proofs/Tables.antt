-- A table made by a closure, from its indices.
use Rattle.std.proofs.Common.{◌≡◌, ℕ, zero, suc, ◌+◌, ◌<◌, ◌≤◌, List, get_or, sym, ap, ◌∙◌, subst, inl, inr, arith}
use Rattle.std.specs.Fn.{Mut, Called}
use Rattle.std.specs.Array.{IsFromFnResultFrom}
use Rattle.std.proofs.lemmas.Bool.{cases_eq}

-- Where each call gives v of its index and leaves the closure as it was, v stands at each index.
pub made_at :
    {F : Type 0} (g : Mut F (ℕ × Unit {0}) ℕ) (f : F) (v : ℕ → ℕ) (ys : List ℕ) (end : ℕ)
    → ((i b : ℕ) (q : F) → i < end → Called g f (i, tt) b q → (q ≡ f) × (b ≡ v i))
    → (i n : ℕ) → i + n ≤ end → IsFromFnResultFrom g f ys i n → (k : ℕ) → i ≤ k → k < i + n → get_or ys k 0 ≡ v k
made_at g f v ys end h i zero le made k low high = absurd (let no : ⊥ = omega arith in no)
made_at g f v ys end h i (suc n) le made k low high =
    let here = h i made.1 made.0 (omega arith) made.3 in
    elim (cases_eq k i) [
      | inl same ↦ ap (λ j. get_or ys j 0) same ∙ made.2.1 0 ∙ here.1 ∙ ap v (sym same)
      | inr other ↦ made_at g f v ys end h (i + 1) n (omega arith) (subst (λ s. IsFromFnResultFrom g s ys (i + 1) n) here.0 made.4) k (omega (arith, other)) (omega arith)
    ]

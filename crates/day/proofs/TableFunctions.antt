-- Tables as functions of the index: one entry changed, or the same entry throughout.
use Rattle.std.proofs.Common.{◌≡◌, ℕ, zero, suc, ◌+◌, ◌<◌, List, map, length, get_or, set, replicate, sym, refl, ap, ◌∙◌, inl, inr, arith}
use mathlib.Core.Path.{fun_ext}
use Rattle.std.proofs.lemmas.List.{get_or-set_same, get_or-set_other, map-set, length-map}
use Rattle.std.proofs.lemmas.Bool.{cases_eq}
use Rattle.outcome.specs.Outcome.{at}
use Rattle.outcome.proofs.Segments.{at_same, at_other}

-- A table in which the entry at i is changed is the function changed at i.
pub table_set :
    {X Y : Type 0} (f : X → Y) (xs : List X) (i : ℕ) (x d : X) → i < length xs
    → (λ (k : ℕ). f (get_or (set xs i x) k d)) ≡ at i (f x) (λ k. f (get_or xs k d))
table_set f xs i x d l = fun_ext each
  where
    each : (k : ℕ) → f (get_or (set xs i x) k d) ≡ at i (f x) (λ j. f (get_or xs j d)) k
    each k =
        elim (cases_eq k i) [
          | inl same ↦ rw same (ap f (get_or-set_same xs i x d l) ∙ sym (at_same i (f x) (λ j. f (get_or xs j d))))
          | inr other ↦ ap f (get_or-set_other xs i k x d other) ∙ sym (at_other i (f x) (λ j. f (get_or xs j d)) k other)
        ]

-- The same of a figure of the entries.
pub figures_set :
    {X Y : Type 0} (f : X → Y) (xs : List X) (i : ℕ) (x : X) (e : Y) → i < length xs
    → (λ (k : ℕ). get_or (map f (set xs i x)) k e) ≡ at i (f x) (λ k. get_or (map f xs) k e)
figures_set f xs i x e l =
    ap (λ ys (k : ℕ). get_or ys k e) (map-set f xs i x) ∙ table_set (λ y. y) (map f xs) i (f x) e (omega (arith, length-map xs f))

-- A table of the same entry throughout is the constant function.
pub table_constant :
    {X Y : Type 0} (f : X → Y) (n : ℕ) (x d : X) → f x ≡ f d → ◌≡◌ {A = ℕ → Y} (λ k. f (get_or (replicate n x) k d)) (λ k. f d)
table_constant f n x d e = fun_ext (each n)
  where
    each : (n k : ℕ) → f (get_or (replicate n x) k d) ≡ f d
    each zero k = refl
    each (suc n) zero = e
    each (suc n) (suc k) = each n k

-- The same of a figure of the entries.
pub figures_constant : {X Y : Type 0} (f : X → Y) (n : ℕ) (x : X) (e : Y) → f x ≡ e → ◌≡◌ {A = ℕ → Y} (λ k. get_or (map f (replicate n x)) k e) (λ k. e)
figures_constant f n x e q = fun_ext (each n)
  where
    each : (n k : ℕ) → get_or (map f (replicate n x)) k e ≡ e
    each zero k = refl
    each (suc n) zero = q
    each (suc n) (suc k) = each n k

-- A table filled one entry further: what held at each entry filled so far holds with the new one.
pub filled_more :
    {X : Type 0} (P : ℕ → X → Type 0) (xs : List X) (n : ℕ) (x d : X) → n < length xs → P n x
    → ((k : ℕ) → k < n → P k (get_or xs k d)) → (k : ℕ) → k < n + 1 → P k (get_or (set xs n x) k d)
filled_more P xs n x d l new old k m =
    elim (cases_eq k n) [ inl same ↦ rw same (rw (get_or-set_same xs n x d l) new) | inr other ↦ rw (get_or-set_other xs n k x d other) (old k (omega arith)) ]

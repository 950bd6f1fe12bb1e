-- What caps and a ceiling permit at one place alone.
use Rattle.std.proofs.Common.{◌≡◌, ℕ, ◌<◌, ◌≤◌, Bool, leb, List, get_or, sym, ap, ◌∙◌, inl, inr, arith}
use Rattle.std.proofs.lemmas.Bool.{le-leb, lt-leb, cases_lt, cases_eq}
use Rattle.lawful.specs.Awards.{zero_award, raise}
use Rattle.lawful.proofs.Sums.{sum_zeros, all_below_from, all_below_false}
use Rattle.lawful.proofs.Awards.{raise_at, raise_elsewhere, sum_raise}
use Rattle.layers.specs.Cutting.{keeps_caps, keeps_ceiling}

-- Where q is no more than the cap of the place p, that quantity at p alone keeps each cap.
within_each_cap : (caps : List ℕ) (p q k : ℕ) → q ≤ get_or caps p 0 → raise zero_award p q k ≤ get_or caps k 0
within_each_cap caps p q k l =
    elim (cases_eq k p) [ inl e ↦ rw e (omega (arith, raise_at zero_award p q)) | inr ne ↦ omega (arith, raise_elsewhere zero_award p q k ne) ]

-- The caps permit at the place p alone what is no more than its cap.
pub caps_at_one_place : (caps : List ℕ) (p q : ℕ) → p < 256 → keeps_caps caps (raise zero_award p q) ≡ leb q (get_or caps p 0)
caps_at_one_place caps p q h =
    elim (cases_lt (get_or caps p 0) q) [
      | inl l ↦ all_below_false 256 keeps p h (lt-leb (raise zero_award p q p) (get_or caps p 0) (omega (arith, raise_at zero_award p q))) ∙ sym (lt-leb q (get_or caps p 0) l)
      | inr l ↦ all_below_from 256 keeps (λ k _. le-leb (raise zero_award p q k) (get_or caps k 0) (within_each_cap caps p q k l)) ∙ sym (le-leb q (get_or caps p 0) l)
    ]
  where
    keeps : ℕ → Bool
    keeps k = leb (raise zero_award p q k) (get_or caps k 0)

-- The ceiling permits at one place alone what is no more than the ceiling.
pub ceiling_at_one_place : (limit p q : ℕ) → p < 256 → keeps_ceiling limit (raise zero_award p q) ≡ leb q limit
ceiling_at_one_place limit p q h = ap (λ t. leb t limit) (omega (arith, sum_raise 256 zero_award p q h, sum_zeros 256))

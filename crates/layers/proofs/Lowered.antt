-- A cap lowered, and a ceiling lowered.
use Rattle.std.proofs.Common.{◌≡◌, ℕ, ◌-◌, ◌<◌, min, leb, List, length, get_or, set, refl, ap, inl, inr, arith, get_or-set_other, get_or-set_same}
use mathlib.Core.Path.{fun_ext}
use Rattle.std.proofs.lemmas.Bool.{cases_eq}
use Rattle.std.proofs.lemmas.Bool.Decides.{nat_tests}
use Rattle.lawful.specs.Sums.{all_below}
use Rattle.lawful.specs.Awards.{Award, raise}
use Rattle.lawful.proofs.Awards.{raise_at, raise_elsewhere, sum_raise}
use Rattle.screen.specs.Meaning.{after_take}
use Rattle.layers.specs.Cutting.{keeps_caps, keeps_ceiling}

-- The cap of p lowered by q, or to 0, permits what the cap permits with so much added at p.
lowered_cap : (caps : List ℕ) (p q : ℕ) (x : Award) → p < length caps → (k : ℕ)
    → leb (x k) (get_or (set caps p (get_or caps p 0 - q)) k 0) ≡ leb (raise x p (min (get_or caps p 0) q) k) (get_or caps k 0)
lowered_cap caps p q x h k =
    elim (cases_eq k p) [
      | inl e ↦ rw (e, get_or-set_same caps p (get_or caps p 0 - q) 0 h, raise_at x p (min (get_or caps p 0) q)) (grind (arith, nat_tests))
      | inr ne ↦ rw (get_or-set_other caps p k (get_or caps p 0 - q) 0 ne, raise_elsewhere x p (min (get_or caps p 0) q) k ne) refl
    ]

pub take_from_caps : (caps : List ℕ) (p q : ℕ) → p < length caps
    → keeps_caps (set caps p (get_or caps p 0 - q)) ≡ after_take (keeps_caps caps) p (min (get_or caps p 0) q)
take_from_caps caps p q h = fun_ext (λ x. ap (all_below 256) (fun_ext (lowered_cap caps p q x h)))

-- The ceiling lowered by q, or to 0, permits what the ceiling permits with so much added at a place.
pub take_from_ceiling : (limit p q : ℕ) → p < 256 → keeps_ceiling (limit - q) ≡ after_take (keeps_ceiling limit) p (min limit q)
take_from_ceiling limit p q h = fun_ext (λ x. rw (sum_raise 256 x p (min limit q) h) (grind (arith, nat_tests)))

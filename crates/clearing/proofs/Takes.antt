-- One take: what it leaves of the award and of what is permitted on top.
use Rattle.std.proofs.Common.{◌≡◌, ℕ, ◌+◌, ◌<◌, List, length, get_or, set, sym, ap, ◌∙◌, inl, inr, arith}
use mathlib.Core.Path.{fun_ext}
use Rattle.std.proofs.lemmas.List.{get_or-set_same, get_or-set_other}
use Rattle.std.proofs.lemmas.Bool.{cases_eq}
use Rattle.lawful.specs.Awards.{Award, AwardSet, raise}
use Rattle.lawful.specs.Lawful.{above}
use Rattle.lawful.proofs.Awards.{raise_at, raise_elsewhere, sum_raise}
use Rattle.outcome.specs.Groups.{total}
use Rattle.screen.specs.Meaning.{after_take}
use Rattle.clearing.specs.Awarded.{award_of}

-- What is taken on top of an award is permitted on top of the award so raised.
pub above_raised : (A : AwardSet) (z : Award) (p q : ℕ) → after_take (above z A) p q ≡ above (raise z p q) A
above_raised A z p q = fun_ext (λ x. ap A (fun_ext (λ k. omega arith)))

-- A list with more at a place is the award raised there.
pub raised_list : (xs : List ℕ) (p q : ℕ) → p < length xs → award_of (set xs p (get_or xs p 0 + q)) ≡ raise (award_of xs) p q
raised_list xs p q l = fun_ext (λ k. elim (cases_eq k p) [
  | inl e ↦ rw e (get_or-set_same xs p (get_or xs p 0 + q) 0 l ∙ sym (raise_at (award_of xs) p q))
  | inr ne ↦ get_or-set_other xs p k (get_or xs p 0 + q) 0 ne ∙ sym (raise_elsewhere (award_of xs) p q k ne)
])

-- A take adds to the award's total.
pub total_after : (z y : Award) (p q : ℕ) → p < 256 → y ≡ raise z p q → total y ≡ total z + q
total_after z y p q h e = ap total e ∙ sum_raise 256 z p q h

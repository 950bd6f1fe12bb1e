-- The worked tree of two corridors.
use Rattle.std.proofs.Common.{◌≡◌, ℕ, ◌+◌, ◌<◌, ◌≤◌, Bool, true, false, cond, ◌||◌, eqb, leb, ◌∷◌, get_or, replicate, refl, inl, inr, arith}
use Rattle.std.proofs.lemmas.Bool.{cases_eq, ne_eqb}
use Rattle.lawful.specs.Awards.{zero_award, raise, within}
use Rattle.lawful.proofs.Sums.{all_below_false}
use Rattle.lawful.proofs.Awards.{within_zero, within_raise}
use Rattle.lawful.proofs.Groups.{grouped_from}
use Rattle.corridors.specs.ByCorridor.{below, in_corridor}
use Rattle.corridors.specs.Trees.{two_corridors, award_of, Worked}

-- the places of each of the two corridors
abbrev has : ℕ → ℕ → Bool
has = in_corridor (replicate 32 0) (1 ∷ replicate 63 0)

abbrev limit : ℕ → ℕ
limit c = get_or (100 ∷ 70 ∷ replicate 30 6000000) c 0

-- Place 0 lies in both corridors.
in_both : (c : ℕ) → has c 0 ≡ (eqb 1 c || (eqb 0 c || false))
unfolding below
in_both c = refl

-- Place 4 lies in the root alone.
in_root : (c : ℕ) → has c 4 ≡ (eqb 0 c || false)
unfolding below
in_root c = refl

-- What is drawn from a corridor.
drawn : (a b c : ℕ) → within 256 (has c) (award_of a b) ≡ cond (eqb 1 c || (eqb 0 c || false)) a 0 + cond (eqb 0 c || false) b 0
drawn a b c =
    rw (← in_both c, ← in_root c)
    (omega (arith, within_zero 256 (has c), within_raise 256 (has c) zero_award 0 a (omega arith), within_raise 256 (has c) (raise zero_award 0 a) 4 b (omega arith)))

permitted : two_corridors (award_of 70 30) ≡ true
permitted = grouped_from 256 32 has limit (award_of 70 30) (λ c l. rw (drawn 70 30 c) (kept c))
  where
    kept : (c : ℕ) → cond (eqb 1 c || (eqb 0 c || false)) 70 0 + cond (eqb 0 c || false) 30 0 ≤ limit c
    kept c =
        elim (cases_eq c 0) [
          | inl e ↦ rw e (omega arith)
          | inr not_root ↦ elim (cases_eq c 1) [ inl e ↦ rw e (omega arith) | inr not-one ↦ rw (ne_eqb 1 c (λ e. omega arith), ne_eqb 0 c (λ e. omega arith)) (omega arith) ]
        ]

refused : (a b c : ℕ) → c < 32 → leb (cond (eqb 1 c || (eqb 0 c || false)) a 0 + cond (eqb 0 c || false) b 0) (limit c) ≡ false → two_corridors (award_of a b) ≡ false
refused a b c l h = all_below_false 32 (λ g. leb (within 256 (has g) (award_of a b)) (limit g)) c l (rw (drawn a b c) h)

pub worked : Worked
worked = (permitted, refused 70 31 0 (omega arith) refl, refused 71 0 1 (omega arith) refl)

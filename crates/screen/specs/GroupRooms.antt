-- Rooms and takes where groups of places keep limits. A place may lie in several groups.
use Rattle.std.specs.Prelude.{◌≡◌, ℕ, zero, suc, ◌+◌, ◌<◌, ◌≤◌, Bool, true, cond, leb, Decides, nat_le, refl}
use Rattle.std.proofs.Math.Path.{fun_ext}
use Rattle.std.proofs.Common.{arith}
use Rattle.std.proofs.lemmas.Bool.{cond-true, leb-true, le-leb}
use Rattle.std.proofs.lemmas.Bool.Decides.{nat_tests, same_from_decides}
use Rattle.lawful.specs.Sums.{all_below}
use Rattle.lawful.specs.Awards.{Award, zero_award, raise, within}
use Rattle.lawful.specs.Lawful.{grouped}
use Rattle.lawful.proofs.Awards.{within_zero, within_raise}
use Rattle.lawful.proofs.Groups.{grouped_at, grouped_from}

-- Tests that agree at each number below m pass together.
all_below_same : (m : ℕ) (s t : ℕ → Bool) → ((g : ℕ) → g < m → s g ≡ t g) → all_below m s ≡ all_below m t
unfolding all_below
all_below_same zero s t h = refl
all_below_same (suc m) s t h =
    let e = h m (omega arith) in let d = all_below_same m s t (λ g l. h g (omega arith)) in rw (e, d)

-- m groups of places below n, the limit of each, and a place p.
module _ (n m : ℕ) (has : ℕ → ℕ → Bool) (limit : ℕ → ℕ) (p : ℕ) (inside : p < n) where
  -- Of a quantity at the place alone, a group that has the place holds all, and another group nothing.
  drawn_alone : (g q : ℕ) → within n (has g) (raise zero_award p q) ≡ cond (has g p) q 0
  drawn_alone g q = omega (arith, within_raise n (has g) zero_award p q inside, within_zero n (has g))

  -- A quantity at the place alone is permitted exactly if it keeps the limit of each group that has the place.
  pub alone_permitted : (q : ℕ) → Decides (grouped n m has limit (raise zero_award p q)) ((g : ℕ) → g < m → has g p ≡ true → q ≤ limit g)
  alone_permitted q = (to, from)
    where
      to : grouped n m has limit (raise zero_award p q) ≡ true → (g : ℕ) → g < m → has g p ≡ true → q ≤ limit g
      to h g l in_g = omega (arith, drawn_alone g q, cond-true (has g p) q 0 in_g, grouped_at n m has limit (raise zero_award p q) h g l)

      from : ((g : ℕ) → g < m → has g p ≡ true → q ≤ limit g) → grouped n m has limit (raise zero_award p q) ≡ true
      from h = grouped_from n m has limit (raise zero_award p q) (λ g l. rw (drawn_alone g q) (let k = h g l in grind arith))

  -- The most that is permitted at the place alone is the least limit of the groups that have the place.
  pub alone_up_to_least : (g : ℕ) → g < m → has g p ≡ true → ((h : ℕ) → h < m → has h p ≡ true → limit g ≤ limit h)
      → (q : ℕ) → grouped n m has limit (raise zero_award p q) ≡ nat_le q (limit g)
  alone_up_to_least g l in_g least q =
      same_from_decides (grouped n m has limit (raise zero_award p q)) (nat_le q (limit g)) (alone_permitted q)
      ((λ t h j in-h. omega (arith, leb-true q (limit g) t, least h j in-h)), (λ k. le-leb q (limit g) (k g l in_g)))

  -- To lower the limit of each group that has the place permits what was permitted on top of the quantity taken there.
  pub take_lowers : (left : ℕ → ℕ) (q : ℕ) → ((g : ℕ) → g < m → left g + cond (has g p) q 0 ≡ limit g)
      → grouped n m has left ≡ (λ x. grouped n m has limit (raise x p q))
  take_lowers left q lowered = fun_ext same
    where
      at_group : (x : Award) (g : ℕ) → g < m → nat_le (within n (has g) x) (left g) ≡ nat_le (within n (has g) (raise x p q)) (limit g)
      at_group x g l = let d = within_raise n (has g) x p q inside in let e = lowered g l in grind (arith, nat_tests)

      same : (x : Award) → grouped n m has left x ≡ grouped n m has limit (raise x p q)
      same x = all_below_same m (λ g. leb (within n (has g) x) (left g)) (λ g. leb (within n (has g) (raise x p q)) (limit g)) (at_group x)

-- What an award is worth that draws on the places in an order.
use Rattle.std.proofs.Common.{◌≡◌, ℕ, zero, suc, ◌+◌, ◌*◌, ◌<◌, ◌≤◌, min, Bool, true, cond, leb, ◌⊎◌, sym, refl, ap, ◌∙◌, inl, inr, mul-zero, arith}
use Rattle.std.proofs.lemmas.Bool.{cases_lt, both_ways, cond-true, cond-false, le-leb, lt-leb}
use Rattle.lawful.specs.Sums.{sum_to}
use Rattle.lawful.specs.Awards.{Award, AwardSet, raise, keep, within, cost}
use Rattle.lawful.specs.Lawful.{Lawful}
use Rattle.lawful.specs.Worth.{Inside, Full, MostOfTotal, up_to, FullIsMost, FilledIsCheapest}
use Rattle.lawful.proofs.Sums.{sum_same, sum_plus, sum_zeros, term_le_sum}
use Rattle.lawful.proofs.Awards.{keep_less, within_le_sum}
use Rattle.lawful.proofs.Rooms.{part_in}

-- A part of the order at which nothing can be raised is drawn on as much as any member draws on it: else exchange would raise it.
pub full_is_most : FullIsMost
full_is_most n A P z laws in-z full y in-y =
    elim (cases_lt (within n P z) (within n P y)) [
      | inl less ↦
          let e = laws.exchange (keep P z) (keep P y) (part_in n A P z laws in-z) (part_in n A P y laws in-y) less in
          absurd (both_ways (A (raise (keep P z) e.0 1)) (full e.0 e.1 (keep_less P z y e.0 e.2).0) e.3)
      | inr le ↦ le
    ]

-- A part that holds the whole award, or at which nothing can be raised, is drawn on as much as a member of the same total draws on it.
pub most_of_total : (n : ℕ) (A : AwardSet) (P : ℕ → Bool) (z : Award) → Lawful n A → A z ≡ true → Inside n P z ⊎ Full n A P z → MostOfTotal n A P z
most_of_total n A P z laws in-z (inl inside) y in-y same = omega (arith, within_le_sum n P y)
most_of_total n A P z laws in-z (inr full) y in-y same = full_is_most n A P z laws in-z full y in-y

-- what an award costs where each price counts up to v only
abbrev pub cost_up_to : ℕ → (ℕ → ℕ) → ℕ → Award → ℕ
cost_up_to n price v x = cost n (λ p. min (price p) v) x

-- One price level more, at one place: each unit costs one more, unless its price is reached.
level_at : (c v x : ℕ) → x * min c (suc v) + cond (leb c v) x 0 ≡ x * min c v + x
level_at c v x =
    elim (cases_lt v c) [
      | inl l ↦
          rw (cond-false (leb c v) x 0 (lt-leb c v l), at_most c (suc v) l, at_most c v (omega arith)) (omega arith)
      | inr l ↦ rw (cond-true (leb c v) x 0 (le-leb c v l), at_least c (suc v) (omega arith), at_least c v l) refl
    ]
  where
    at_most : (c v : ℕ) → v ≤ c → min c v ≡ v
    at_most c v l = omega arith

    at_least : (c v : ℕ) → c ≤ v → min c v ≡ c
    at_least c v l = omega arith

-- One price level more costs one for each unit that is not drawn at that price or below.
pub cost_of_level : (n : ℕ) (price : ℕ → ℕ) (v : ℕ) (x : Award) → cost_up_to n price (suc v) x + within n (up_to price v) x ≡ cost_up_to n price v x + sum_to n x
cost_of_level n price v x =
    sym (sum_plus n (λ p. x p * min (price p) (suc v)) (keep (up_to price v) x))
    ∙ sum_same n (λ p. x p * min (price p) (suc v) + keep (up_to price v) x p) (λ p. x p * min (price p) v + x p) (λ p l. level_at (price p) v (x p))
    ∙ sum_plus n (λ p. x p * min (price p) v) x

-- Where prices count up to 0 only, an award costs nothing.
pub cost_at_none : (n : ℕ) (price : ℕ → ℕ) (x : Award) → cost_up_to n price 0 x ≡ 0
cost_at_none n price x = sum_same n (λ p. x p * min (price p) 0) (λ p. 0) (λ p l. ap (λ c. x p * c) (let e : min (price p) 0 ≡ 0 = omega arith in e) ∙ mul-zero (x p)) ∙ sum_zeros n

-- Where prices count up to a bound of them all, an award costs what it costs.
pub cost_at_all : (n : ℕ) (price : ℕ → ℕ) (v : ℕ) (x : Award) → ((p : ℕ) → p < n → price p ≤ v) → cost_up_to n price v x ≡ cost n price x
cost_at_all n price v x h =
    sum_same n (λ p. x p * min (price p) v) (λ p. x p * price p) (λ p l. ap (λ c. x p * c) (let j = h p l in omega arith))

-- Of two awards of one total, the one that draws no less from the places up to each price costs no more.
pub cheaper : (n : ℕ) (price : ℕ → ℕ) (z y : Award) → sum_to n y ≡ sum_to n z → ((v : ℕ) → within n (up_to price v) y ≤ within n (up_to price v) z) → cost n price z ≤ cost n price y
cheaper n price z y same more =
    rw (← cost_at_all n price (sum_to n price) z (term_le_sum n price), ← cost_at_all n price (sum_to n price) y (term_le_sum n price)) (all_up_to (sum_to n price))
  where
    all_up_to : (v : ℕ) → cost_up_to n price v z ≤ cost_up_to n price v y
    all_up_to zero = omega (arith, cost_at_none n price z)
    all_up_to (suc v) = omega (arith, all_up_to v, more v, cost_of_level n price v z, cost_of_level n price v y)

-- An award that at each price is inside the places priced so or lower, or fills them, is a cheapest one of its total.
pub filled_is_cheapest : FilledIsCheapest
filled_is_cheapest n A price z laws in-z filled y in-y same =
    cheaper n price z y same (λ v. most_of_total n A (up_to price v) z laws in-z (filled v) y in-y same)

-- A sum over the places of a table is the sum of its list.
use Rattle.std.proofs.Common.{◌≡◌, ℕ, zero, suc, ◌+◌, ◌≤◌, List, length, get_or, take, sum, sym, ap, ◌∙◌, arith, take_all}
use Rattle.std.proofs.lemmas.List.Sums.{sum_by_more}
use Rattle.lawful.specs.Sums.{sum_to}
use Rattle.lawful.proofs.Sums.{sum_none, sum_suc}

-- The first n items sum to the first n places.
sum_of_first : (xs : List ℕ) (n : ℕ) → n ≤ length xs → sum (take n xs) ≡ sum_to n (λ p. get_or xs p 0)
sum_of_first xs zero le = sym (sum_none (λ p. get_or xs p 0))
sum_of_first xs (suc n) le =
    let more : sum (take (n + 1) xs) ≡ sum (take n xs) + get_or xs n 0 = sum_by_more (λ x. x) xs n 0 (omega arith) in
    let one : suc n ≡ n + 1 = omega arith in
    let next : sum (take (suc n) xs) ≡ sum (take (n + 1) xs) = ap (λ k. sum (take k xs)) one in
    omega (arith, next, more, sum_of_first xs n (omega arith), sum_suc n (λ p. get_or xs p 0))

-- All items sum to all places.
pub sum_of_list : (xs : List ℕ) (n : ℕ) → length xs ≡ n → sum xs ≡ sum_to n (λ p. get_or xs p 0)
sum_of_list xs n e = ap sum (sym (take_all n xs (omega (arith, e)))) ∙ sum_of_first xs n (omega (arith, e))

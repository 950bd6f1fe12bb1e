-- Sums and tests over the places below a bound.
use Rattle.std.specs.Prelude.{ℕ, zero, suc, ◌+◌, Bool, true, cond, ◌&&◌}

-- f 0 + .. + f (n - 1)
unfoldable pub sum_to : ℕ → (ℕ → ℕ) → ℕ
sum_to zero f = 0
sum_to (suc n) f = f n + sum_to n f

-- the test passes at each number below n
unfoldable pub all_below : ℕ → (ℕ → Bool) → Bool
all_below zero test = true
all_below (suc n) test = test n && all_below n test

-- the greatest number up to the bound that passes the test, or 0 where none above 0 does
unfoldable pub greatest : ℕ → (ℕ → Bool) → ℕ
greatest zero test = 0
greatest (suc n) test = cond (test (suc n)) (suc n) (greatest n test)

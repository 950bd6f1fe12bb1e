-- Quotients rounded down.
use Rattle.std.proofs.Common.{◌≡◌, ℕ, ◌+◌, ◌*◌, ◌/◌, ◌<◌, ◌≤◌, le_trans, mul-le-mul_right, mul_comm, add-mul, mul-add, div-mul-le_self, arith}
use native.Mathlib.Nat.{lt-div-mul-add}
use Rattle.std.proofs.lemmas.Nat.{le-div, div_below}

-- A quotient rises with what is divided.
pub div_mono : (a b k : ℕ) → 0 < k → a ≤ b → a / k ≤ b / k
div_mono a b k pos h = le-div (a / k) b k pos (le_trans (div-mul-le_self a k) h)

-- Where the factor q is no greater than the divisor n, c more of p give at most c more of the quotient.
pub div_step : (q n p c : ℕ) → 0 < n → q ≤ n → q * (p + c) / n ≤ q * p / n + c
div_step q n p c pos le =
    let more : q * p < q * p / n * n + n = lt-div-mul-add pos in
    let extra : q * c ≤ n * c = mul-le-mul_right c le in
    let turn : n * c ≡ c * n = mul_comm n c in
    let below : q * (p + c) < (q * p / n + c + 1) * n = omega (arith, mul-add q p c, add-mul (q * p / n + c) 1 n, add-mul (q * p / n) c n) in
    let under : q * (p + c) / n < q * p / n + c + 1 = div_below (q * (p + c)) n (q * p / n + c + 1) pos below in
    omega arith

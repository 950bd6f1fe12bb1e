-- Awards: one quantity for each place. Only the places below a bound n count, and every sum says its bound.
use Rattle.std.specs.Prelude.{ℕ, ◌+◌, ◌*◌, Bool, cond, ◌==◌, nat_eq}
use Rattle.lawful.specs.Sums.{sum_to}

-- the quantity at each place
abbrev pub Award : Type 0
Award = ℕ → ℕ

-- a set of awards, by the test of its members
abbrev pub AwardSet : Type 0
AwardSet = (ℕ → ℕ) → Bool

-- the zero award
abbrev pub zero_award : Award
zero_award p = 0

-- the award with q more at the place p
abbrev pub raise : Award → ℕ → ℕ → Award
raise x p q k = x k + cond (k == p) q 0

-- two awards together
abbrev pub plus : Award → Award → Award
plus x y p = x p + y p

-- the part of an award that lies at the places of P
abbrev pub keep : (ℕ → Bool) → Award → Award
keep P x p = cond (P p) (x p) 0

-- the quantity that an award draws from the places of P
abbrev pub within : ℕ → (ℕ → Bool) → Award → ℕ
within n P x = sum_to n (keep P x)

-- the award by classes, where the place p belongs to the class f p
abbrev pub by_class : ℕ → (ℕ → ℕ) → Award → Award
by_class n f x u = within n (λ p. nat_eq (f p) u) x

-- what an award costs at a price for each place
abbrev pub cost : ℕ → (ℕ → ℕ) → Award → ℕ
cost n price x = sum_to n (λ p. x p * price p)

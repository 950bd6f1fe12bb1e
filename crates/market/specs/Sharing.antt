-- The one sharing rule: a quantity over claims, by running sums.
use Rattle.std.specs.Prelude.{◌≡◌, ℕ, ◌+◌, ◌-◌, ◌*◌, ◌/◌, ◌^◌, ◌≤◌, Bool, cond, ◌&&◌, List, [], ◌∷◌, length, sum, ◌==◌, nat_le, nat_lt, slice_index}

-- what all claims up to the running sum p get together, of the quantity q over claims with the sum n
abbrev pub part : ℕ → ℕ → ℕ → ℕ
part q n p = cond (n == 0) 0 (q * p / n)

-- what the claim c gets that lifts the running sum from p to p + c: the part then, less what the claims before it got
abbrev pub share_at : ℕ → ℕ → ℕ → ℕ → ℕ
share_at q n p c = part q n (p + c) - part q n p

abbrev pub shares_from : ℕ → ℕ → ℕ → List ℕ → List ℕ
shares_from q n p [] = []
shares_from q n p (c ∷ cs) = share_at q n p c ∷ shares_from q n (p + c) cs

-- the shares of the quantity q over the claims
abbrev pub shares_of : ℕ → List ℕ → List ℕ
shares_of q cs = shares_from q (sum cs) 0 cs

-- The shares add up to the quantity, none is above its claim, and a quantity equal to the sum of claims gives each its claim.
pub record Fair (q : ℕ) (claims given : List ℕ) : Type 0 where
  pub long : length given ≡ length claims
  pub whole : sum given ≡ q
  pub bounded : (k : ℕ) → slice_index given k ≤ slice_index claims k
  pub full : q ≡ sum claims → given ≡ claims

-- whether a quantity can be shared over claims into a table of so many rows
abbrev pub can_share : ℕ → List ℕ → ℕ → Bool
can_share q claims rows = rows == length claims && (nat_lt (sum claims) (2 ^ 32) && nat_le q (sum claims))

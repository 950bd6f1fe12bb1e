-- What is entered at a point: tiers by place, bids by grid.
use Rattle.std.specs.Prelude.{ℕ, zero, suc, ◌+◌, ◌*◌, ◌<◌, ◌≤◌, Bool, false, ◌&&◌, ◌||◌, ◌==◌, nat_lt}
use Rattle.market.specs.Maxima.{grid_count, max_figure, max_price}

pub record Entries : Type 0 where
  -- of the tier at a place: its capacity, 0 where there is no tier; its landed offer in fen; the number of its class
  pub capacity : ℕ → ℕ
  pub landed : ℕ → ℕ
  pub class : ℕ → ℕ
  -- of a grid: its bid in fen, and its need, 0 where there is no bid
  pub bid : ℕ → ℕ
  pub need : ℕ → ℕ

-- the figures are within their maxima
pub record Ranged (e : Entries) : Type 0 where
  pub capacities : (p : ℕ) → e.capacity p ≤ max_figure
  pub classes : (p : ℕ) → e.class p < 8
  pub bids : (g : ℕ) → e.bid g ≤ max_price

-- The level of a place: 8 × landed offer + class. Classes are below 8, so levels rise by landed offer and then by class,
-- and tiers of equal level have equal landed offer and class.
abbrev pub level : Entries → ℕ → ℕ
level e p = 8 * e.landed p + e.class p

-- the test passes at some number below n
unfoldable pub any_below : ℕ → (ℕ → Bool) → Bool
any_below zero test = false
any_below (suc n) test = test n || any_below n test

-- some grid bids b
abbrev pub some_bids : Entries → ℕ → Bool
some_bids e b = any_below grid_count (λ g. nat_lt 0 (e.need g) && e.bid g == b)

-- What clearing a point yields: the segments in rising order of their bids.
use Rattle.std.specs.Prelude.{ℕ, zero, suc, ◌+◌, ◌-◌, ◌*◌, ◌/◌, cond, List, [], ◌∷◌, sum, ◌==◌, nat_le, nat_lt, slice_index}
use Rattle.lawful.specs.Awards.{Award, AwardSet, zero_award}
use Rattle.market.specs.Maxima.{grid_count, max_price}
use Rattle.market.specs.Sharing.{shares_of}
use Rattle.outcome.specs.Entries.{Entries, some_bids}
use Rattle.outcome.specs.Groups.{total, work_group}

-- the award, and the landed offer of the last group that took anything, or 0
pub record Swept : Type 0 where
  pub award : Award
  pub price : ℕ

-- the groups at n levels from `low` on, in order
unfoldable pub sweep : AwardSet → Entries → ℕ → ℕ → ℕ → Swept → Swept
sweep A e goal low zero s = s
sweep A e goal low (suc n) s =
    let t = sweep A e goal low n s in
    let z = work_group A e goal (low + n) t.award in
    record { award = z; price = cond (nat_lt (total t.award) (total z)) ((low + n) / 8) t.price }

pub record Outcome : Type 0 where
  -- by place
  pub award : Award
  -- by grid: all that it got
  pub got : ℕ → ℕ
  -- by bid: the quantity and the price of its segment, and what a grid got in it
  pub quantity : ℕ → ℕ
  pub price : ℕ → ℕ
  pub share : ℕ → ℕ → ℕ
  -- the first level above the segments worked so far
  pub next : ℕ

abbrev pub start : Outcome
start = record { award = zero_award; got = λ g. 0; quantity = λ b. 0; price = λ b. 0; share = λ b g. 0; next = 0 }

-- the open needs of the buyers of the segment at b, by grid: of n grids from g on, those that bid at least b
unfoldable pub claims_from : Entries → (ℕ → ℕ) → ℕ → ℕ → ℕ → List ℕ
claims_from e got b zero g = []
claims_from e got b (suc n) g = cond (nat_le b (e.bid g)) (e.need g - got g) 0 ∷ claims_from e got b n (suc g)

abbrev pub claims : Entries → (ℕ → ℕ) → ℕ → List ℕ
claims e got b = claims_from e got b grid_count 0

-- a function changed at one number
abbrev pub at : {X : Type 0} → ℕ → X → (ℕ → X) → ℕ → X
at b x f k = cond (k == b) x (f k)

-- The segment at the bid b: it holds the levels above the bids before it and up to its own. It wants its buyers' open needs,
-- and what it takes is shared among them by open need.
abbrev pub segment : AwardSet → Entries → ℕ → Outcome → Outcome
segment A e b o =
    let wanted = claims e o.got b in
    let s = sweep A e (total o.award + sum wanted) o.next (8 * suc b - o.next) (record { award = o.award; price = 0 }) in
    let taken = total s.award - total o.award in
    let given = shares_of taken wanted in
    record {
      award = s.award;
      got = λ g. o.got g + slice_index given g;
      quantity = at b taken o.quantity;
      price = at b s.price o.price;
      share = at b (λ g. slice_index given g) o.share;
      next = 8 * suc b;
    }

-- the distinct bids below n, rising, make the segments
unfoldable pub segments_below : AwardSet → Entries → ℕ → Outcome
segments_below A e zero = start
segments_below A e (suc b) = cond (some_bids e b) (segment A e b (segments_below A e b)) (segments_below A e b)

-- what clearing yields from the entries under the set that is permitted
abbrev pub outcome : AwardSet → Entries → Outcome
outcome A e = segments_below A e (suc max_price)

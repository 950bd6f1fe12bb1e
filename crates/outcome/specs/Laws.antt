-- What the outcome of a clearing is worth.
use Rattle.std.specs.Prelude.{◌≡◌, ℕ, ◌+◌, ◌<◌, ◌≤◌, Bool, true, false, not, ◌&&◌, nat_le, nat_lt}
use Rattle.lawful.specs.Sums.{sum_to}
use Rattle.lawful.specs.Awards.{AwardSet, within}
use Rattle.lawful.specs.Lawful.{Lawful, capped}
use Rattle.lawful.specs.Worth.{Most, MostOfTotal, Cheapest, up_to}
use Rattle.market.specs.Maxima.{grid_count, place_count, max_price}
use Rattle.outcome.specs.Entries.{Entries, Ranged, level, some_bids, any_below}
use Rattle.outcome.specs.Outcome.{Outcome, outcome}

-- the awards that the screen permits and that keep within each place's capacity
abbrev pub permitted : AwardSet → Entries → AwardSet
permitted A e = capped place_count e.capacity A

pub record Worthy (A : AwardSet) (e : Entries) (o : Outcome) : Type 0 where
  -- the award is in the set and within each place's capacity
  pub in_set : A o.award ≡ true
  pub in_capacity : (p : ℕ) → p < place_count → o.award p ≤ e.capacity p
  -- for each landed offer and class, no such award of the same total draws more from the tiers that land lower, or there in this class or an earlier one
  pub dominant : (l : ℕ) → MostOfTotal place_count (permitted A e) (up_to (level e) l) o.award
  -- every such award of the same total costs at least as much at landed offers
  pub cheapest : Cheapest place_count (permitted A e) e.landed o.award
  -- a grid gets at most its need; where it is left short, no such award of any total draws more from the tiers that land within its bid
  pub served : (g : ℕ) → g < grid_count → o.got g ≤ e.need g
  pub short : (g : ℕ) → g < grid_count → o.got g < e.need g → Most place_count (permitted A e) (up_to e.landed (e.bid g)) o.award

-- the tier at p stands in the segment at b: it lands at or below b, and no grid bids from its landed offer on below b
abbrev pub in_segment : Entries → ℕ → ℕ → Bool
in_segment e b p = nat_le (e.landed p) b && not (any_below grid_count (λ g. nat_lt 0 (e.need g) && (nat_le (e.landed p) (e.bid g) && nat_lt (e.bid g) b)))

-- The segment at the bid b.
pub record SoundSegment (e : Entries) (o : Outcome) (b : ℕ) : Type 0 where
  -- shares and awards each add up to the quantity
  pub shared : sum_to grid_count (o.share b) ≡ o.quantity b
  pub awarded : within place_count (in_segment e b) o.award ≡ o.quantity b
  -- only who bids at least b has a share
  pub buyers : (g : ℕ) → g < grid_count → 0 < o.share b g → b ≤ e.bid g
  -- the price is at least the landed offer of every tier that took something, and at most the bid
  pub covers : (p : ℕ) → p < place_count → in_segment e b p ≡ true → 0 < o.award p → e.landed p ≤ o.price b
  pub capped_by_bid : o.price b ≤ b

-- All that a grid got is what it got in the segments, and what nobody bids has no segment.
pub record SoundSums (e : Entries) (o : Outcome) : Type 0 where
  pub sums : (g : ℕ) → g < grid_count → o.got g ≡ sum_to (1 + max_price) (λ b. o.share b g)
  pub none : (b : ℕ) → some_bids e b ≡ false → (o.quantity b ≡ 0) × ((o.price b ≡ 0) × ((g : ℕ) → o.share b g ≡ 0))
  -- a tier that lands above every bid has no award
  pub unsold : (p : ℕ) → p < place_count → ((b : ℕ) → some_bids e b ≡ true → b < e.landed p) → o.award p ≡ 0

-- Over every lawful set the outcome is worthy, and every segment of it is sound.
abbrev pub ClearingIsWorthy : Type 0
ClearingIsWorthy = (A : AwardSet) (e : Entries) → Lawful place_count A → Ranged e → Worthy A e (outcome A e)

abbrev pub SegmentsAreSound : Type 0
SegmentsAreSound =
    (A : AwardSet) (e : Entries) → Lawful place_count A → Ranged e
    → ((b : ℕ) → some_bids e b ≡ true → SoundSegment e (outcome A e) b) × SoundSums e (outcome A e)

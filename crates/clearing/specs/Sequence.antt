-- The sellers' sequence, and the bid that comes next.
use Rattle.std.specs.Prelude.{◌≡◌, ℕ, ◌+◌, ◌-◌, ◌*◌, ◌<◌, ◌≤◌, true, false, cond, ◌&&◌, ◌⊎◌, List, length, get_or, Some, None, Option, MatchOption, nat_le, nat_lt, slice_index_or}
use Rattle.market.specs.Classes.{class_number}
use Rattle.market.specs.Maxima.{place_count}
use Rattle.market.specs.declared.tiers.Tier.{Tier}
use Rattle.market.specs.declared.tiers.Bid.{Bid}
use Rattle.outcome.specs.Entries.{Entries, level, some_bids}
use Rattle.lawful.specs.Awards.{Award}
use Rattle.outcome.specs.Outcome.{Swept}
use Rattle.outcome.specs.View.{figure_of}

-- the level of a tier, and the number of its place
abbrev pub level_of : Tier → ℕ
level_of t = 8 * t.landed.fen + class_number t.class

abbrev pub place_of : Tier → ℕ
place_of t = t.place.number

-- The sellers' sequence from the level m on: the tiers of the entries at that level or above, each once, by level and then by place.
pub record SequenceFrom (e : Entries) (m : ℕ) (ts : List Tier) : Type 0 where
  pub rising : (i j : ℕ) (d : Tier) → i < j → j < length ts → (level_of (slice_index_or ts i d) < level_of (slice_index_or ts j d)) ⊎ ((level_of (slice_index_or ts i d) ≡ level_of (slice_index_or ts j d)) × (place_of (slice_index_or ts i d) < place_of (slice_index_or ts j d)))
  pub each : (i : ℕ) (d : Tier) → i < length ts → (0 < (get_or ts i d).capacity) × ((get_or ts i d).capacity ≡ e.capacity (place_of (slice_index_or ts i d))) × (level_of (slice_index_or ts i d) ≡ level e (place_of (slice_index_or ts i d)))
  pub placed : (i : ℕ) (d : Tier) → i < length ts → place_of (slice_index_or ts i d) < place_count
  pub from : (i : ℕ) (d : Tier) → i < length ts → m ≤ level_of (slice_index_or ts i d)
  pub all : (p : ℕ) → p < place_count → 0 < e.capacity p → m ≤ level e p → (i : ℕ) × (i < length ts) × ((d : Tier) → place_of (slice_index_or ts i d) ≡ p)

-- the whole sequence: every level is at or above 0
abbrev pub Sequence : Entries → List Tier → Type 0
Sequence e ts = SequenceFrom e 0 ts

-- the sellers' side of the entries, and the buyers' side
abbrev pub sellers_of : List (Option Tier) → Entries
sellers_of ts = record {
  capacity = λ p. figure_of (λ t. t.capacity) (slice_index_or ts p None);
  landed = λ p. figure_of (λ t. t.landed.fen) (slice_index_or ts p None);
  class = λ p. figure_of (λ t. class_number t.class) (slice_index_or ts p None);
  bid = λ g. 0;
  need = λ g. 0;
}

abbrev pub buyers_of : List (Option Bid) → Entries
buyers_of bs = record {
  capacity = λ p. 0;
  landed = λ p. 0;
  class = λ p. 0;
  bid = λ g. figure_of (λ b. b.price.fen) (slice_index_or bs g None);
  need = λ g. figure_of (λ b. b.need) (slice_index_or bs g None);
}

-- The tiers at the first n places, each once, by place.
pub record Collected (e : Entries) (n : ℕ) (ts : List Tier) : Type 0 where
  pub rising : (i j : ℕ) (d : Tier) → i < j → j < length ts → place_of (slice_index_or ts i d) < place_of (slice_index_or ts j d)
  pub each : (i : ℕ) (d : Tier) → i < length ts → (place_of (slice_index_or ts i d) < n) × (0 < (get_or ts i d).capacity) × ((get_or ts i d).capacity ≡ e.capacity (place_of (slice_index_or ts i d))) × (level_of (slice_index_or ts i d) ≡ level e (place_of (slice_index_or ts i d)))
  pub all : (p : ℕ) → p < n → 0 < e.capacity p → (i : ℕ) × (i < length ts) × ((d : Tier) → place_of (slice_index_or ts i d) ≡ p)

-- The next bid from a price on: the least at or above it that some grid bids, if one does.
abbrev pub NextBid : Entries → ℕ → Option ℕ → Type 0
NextBid e from r =
    MatchOption r ((b : ℕ) → from ≤ b → some_bids e b ≡ false)
    (λ b. (from ≤ b) × (some_bids e b ≡ true) × ((c : ℕ) → from ≤ c → c < b → some_bids e c ≡ false))

-- the price of a bid that has a need, where it is at or above `from`
abbrev pub price_from : ℕ → Option Bid → Option ℕ
price_from from None = None
price_from from (Some b) = cond (nat_lt 0 b.need && nat_le from b.price.fen) (Some b.price.fen) None

-- what a grid still needs in the segment at the bid b
abbrev pub open_need : Option Bid → ℕ → ℕ → ℕ
open_need slot got b = cond (nat_le b (figure_of (λ x. x.price.fen) slot)) (figure_of (λ x. x.need) slot - got) 0

-- an award with the price so far
abbrev pub swept_from : Award → ℕ → Swept
swept_from z price = record { award = z; price = price }

-- The entries of a point are within their maxima.
use Rattle.std.proofs.Common.{ℕ, ◌≤◌, get_or, Some, None, Option, arith}
use Rattle.market.specs.Classes.{class_number}
use Rattle.market.specs.Maxima.{max_figure, max_need, max_price}
use Rattle.market.specs.declared.tiers.Tier.{Tier}
use Rattle.market.specs.declared.tiers.Bid.{Bid}
use Rattle.outcome.specs.Entries.{Ranged}
use Rattle.outcome.specs.View.{figure_of, entries_of}
use Rattle.outcome.specs.declared.PointEntries.{PointEntries}
use Rattle.clearing.proofs.Collecting.{class_small}

-- what is at most m wherever something stands is at most m throughout
figure_within : {X : Type 0} (f : X → ℕ) (m : ℕ) → ((x : X) → f x ≤ m) → (o : Option X) → figure_of f o ≤ m
figure_within f m h None = omega arith
figure_within f m h (Some x) = h x

pub entries_ranged : (e : PointEntries) → Ranged (entries_of e)
entries_ranged e =
    record {
      capacities = λ p. figure_within (λ t. t.capacity) max_figure (λ t. t.small) (get_or e.tiers p None);
      classes = λ p. omega (arith, figure_within (λ (t : Tier). class_number t.class) 7 (λ t. omega (arith, class_small t.class)) (get_or e.tiers p None));
      bids = λ g. figure_within (λ b. b.price.fen) max_price (λ b. b.price.ok) (get_or e.bids g None);
    }

-- What a grid needs is within the maximum, whatever stands in a table of bids.
pub need_within : (slot : Option Bid) → figure_of (λ b. b.need) slot ≤ max_need
need_within slot = figure_within (λ (b : Bid). b.need) max_need (λ b. b.small) slot

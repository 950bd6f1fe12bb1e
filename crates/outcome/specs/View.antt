-- The entries of a point, read off the tables that hold them.
use Rattle.std.specs.Prelude.{ℕ, Some, None, Option, slice_index_or}
use Rattle.market.specs.Classes.{class_number}
use Rattle.outcome.specs.Entries.{Entries}
use Rattle.outcome.specs.declared.PointEntries.{PointEntries}

-- a figure of what stands in a table, 0 where nothing does
abbrev pub figure_of : {X : Type 0} → (X → ℕ) → Option X → ℕ
figure_of f None = 0
figure_of f (Some x) = f x

abbrev pub entries_of : PointEntries → Entries
entries_of e = record {
  capacity = λ p. figure_of (λ t. t.capacity) (slice_index_or e.tiers p None);
  landed = λ p. figure_of (λ t. t.landed.fen) (slice_index_or e.tiers p None);
  class = λ p. figure_of (λ t. class_number t.class) (slice_index_or e.tiers p None);
  bid = λ g. figure_of (λ b. b.price.fen) (slice_index_or e.bids g None);
  need = λ g. figure_of (λ b. b.need) (slice_index_or e.bids g None);
}

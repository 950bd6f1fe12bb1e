-- The tier at a place, against the entries of the point.
use Rattle.std.specs.Prelude.{◌≡◌, ℕ, ◌<◌, Option}
use Rattle.market.specs.Classes.{class_number}
use Rattle.market.specs.declared.tiers.Tier.{Tier}
use Rattle.outcome.specs.Entries.{Entries}
use Rattle.outcome.specs.View.{figure_of}

-- What stands at a place has the capacity that the entries give it, and where that is above 0 their landed offer and class.
pub record TierAt (e : Entries) (p : ℕ) (t : Option Tier) : Type 0 where
  pub capacity : figure_of (λ x. x.capacity) t ≡ e.capacity p
  pub landed : 0 < e.capacity p → figure_of (λ x. x.landed.fen) t ≡ e.landed p
  pub class : 0 < e.capacity p → figure_of (λ x. class_number x.class) t ≡ e.class p

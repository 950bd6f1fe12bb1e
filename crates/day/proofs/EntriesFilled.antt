-- The tables of tiers and bids that a register gives hold the entries of its point.
use Rattle.std.proofs.Common.{◌≡◌, ℕ, ◌/◌, ◌%◌, ◌<◌, ◌≤◌, List, length, get_or, Some, None, Option, sym, refl, ap, ◌∙◌, inl, inr, arith}
use mathlib.Core.Path.{fun_ext}
use Rattle.std.proofs.lemmas.List.{get_or_past}
use Rattle.std.proofs.lemmas.Bool.{cases_lt}
use Rattle.market.specs.Classes.{class_at}
use Rattle.market.specs.declared.tiers.Bid.{Bid}
use Rattle.market.specs.declared.tiers.Tier.{Tier}
use Rattle.outcome.specs.Entries.{Entries, level}
use Rattle.outcome.specs.View.{entries_of, figure_of}
use Rattle.book.specs.Views.{entries_in, capacity_under}
use Rattle.day.specs.Shown.{offered, asking, point_of, SameEntries}
use Rattle.day.specs.Tiers.{TierAt}
use Rattle.day.specs.declared.register.Register.{Register}

-- A bid shows its price and its need.
bid_shown : (b : Option Bid) → figure_of (λ x. x.price.fen) b ≡ figure_of (λ x. x.price) (asking b)
bid_shown None = refl
bid_shown (Some b) = refl

need_shown : (b : Option Bid) → figure_of (λ x. x.need) b ≡ figure_of (λ x. x.need) (asking b)
need_shown None = refl
need_shown (Some b) = refl

module _ (r : Register) (tiers : List (Option Tier)) (places : length tiers ≡ 256) (units : length r.offers ≡ 64) where
  abbrev given : Entries
  given = entries_of (record { tiers = tiers; bids = r.bids })

  abbrev shown : Entries
  shown = entries_in (point_of r)

  -- Beyond the last place there is nothing on either side.
  none_given : (p : ℕ) → 256 ≤ p → given.capacity p ≡ 0
  none_given p l = ap (figure_of (λ t. t.capacity)) (get_or_past tiers p None (omega arith))

  none_shown : (p : ℕ) → 256 ≤ p → shown.capacity p ≡ 0
  none_shown p l =
      ap (λ o. figure_of (λ x. capacity_under (class_at x.class) x (p % 4)) (offered o)) (get_or_past r.offers (p / 4) None (omega arith))

  -- Where the tier stands at each place, both sides have one capacity at each place, one level where there is a tier, and so are the same.
  module _ (each : (p : ℕ) → p < 256 → TierAt shown p (get_or tiers p None)) where
    capacity_same : (p : ℕ) → given.capacity p ≡ shown.capacity p
    capacity_same p =
        elim (cases_lt p 256) [ inl l ↦ (each p l).capacity | inr l ↦ none_given p l ∙ sym (none_shown p l) ]

    level_same : (p : ℕ) → 0 < given.capacity p → level given p ≡ level shown p
    level_same p some =
        elim (cases_lt p 256) [
          | inl l ↦ let pos : 0 < shown.capacity p = omega (arith, capacity_same p) in omega (arith, (each p l).landed pos, (each p l).class pos)
          | inr l ↦ absurd (let no : ⊥ = omega (arith, none_given p l) in no)
        ]

    pub entries_filled : SameEntries given shown
    entries_filled = record {
      capacity = fun_ext capacity_same;
      bid = fun_ext (λ g. bid_shown (get_or r.bids g None));
      need = fun_ext (λ g. need_shown (get_or r.bids g None));
      level = level_same;
    }

-- What the tables of a day show.
use Rattle.std.specs.Prelude.{◌≡◌, ℕ, ◌<◌, Bool, true, false, cond, List, [], ◌∷◌, map, take, Some, None, Option, ◌==◌, nat_lt, slice_index, slice_index_or}
use Rattle.market.specs.Entries.{handed_over}
use Rattle.market.specs.Maxima.{grid_count}
use Rattle.market.specs.declared.entries.RawOffer.{RawOffer}
use Rattle.market.specs.declared.entries.UnitOffer.{UnitOffer}
use Rattle.market.specs.declared.figures.Tariff.{Tariff}
use Rattle.market.specs.declared.tiers.Bid.{Bid}
use Rattle.clearing.specs.Declaration.{blank_segment}
use Rattle.clearing.specs.declared.points.Segment.{Segment}
use Rattle.clearing.specs.declared.points.Cleared.{Cleared}
use Rattle.book.specs.Views.{View, Stage, entering, cleared, Declaration, Asked, Money, no_money}
use Rattle.outcome.specs.Entries.{Entries, level}
use Rattle.day.specs.declared.ledger.Accounts.{Accounts}
use Rattle.day.specs.declared.ledger.Ledger.{Ledger}
use Rattle.day.specs.declared.register.Register.{Register}
use Rattle.day.specs.declared.state.CallKind.{CallKind}
use Rattle.day.specs.declared.state.CallKind.TheVariants as kind
use Rattle.day.specs.declared.state.PointState.{PointState}
use Rattle.day.specs.declared.state.PointState.TheVariants as state

-- the tariff in fen at an index, 0 outside the table
abbrev pub tariff_at : List Tariff → ℕ → ℕ
tariff_at ts g = slice_index (map (λ t. t.fen) ts) g

-- an accepted offer as it was handed over
abbrev pub offered : Option UnitOffer → Option RawOffer
offered None = None
offered (Some o) = Some (handed_over o)

-- a bid as it stands
abbrev pub asking : Option Bid → Option Asked
asking None = None
asking (Some b) = Some (record { price = b.price.fen; need = b.need })

-- the segment at a bid, blank where there is none
abbrev pub segment_at : List Segment → ℕ → Segment
segment_at [] b = blank_segment
segment_at (s ∷ ss) b = cond (s.bid == b) s (segment_at ss b)

abbrev pub segments_of : Cleared → List Segment
segments_of c = take c.count c.segments

-- a figure of each grid, 0 where there is no such grid
abbrev pub among_grids : List ℕ → ℕ → ℕ
among_grids figures g = cond (nat_lt g grid_count) (slice_index figures g) 0

abbrev pub declaration_of : Cleared → Declaration
declaration_of c = record {
  award = λ p. slice_index c.awards p;
  got = among_grids c.got;
  quantity = λ b. (segment_at (segments_of c) b).quantity;
  price = λ b. (segment_at (segments_of c) b).price;
  share = λ b. among_grids (segment_at (segments_of c) b).shares;
}

abbrev pub stage_of : PointState → Stage
stage_of state.Entering = entering
stage_of (state.Cleared c) = cleared (declaration_of c)

-- the money on the account of a number, 0 outside the table
abbrev pub account_at : {n : ℕ} → Accounts n → ℕ → ℕ
account_at table k = slice_index (map (λ a. a.fortieths) table.rows) k

abbrev pub money_of : Ledger → Money
money_of l = record { charge = account_at l.charges; unit = account_at l.units; wires = account_at l.wires; branch = l.branch.fortieths }

abbrev pub offers_of : Register → ℕ → Option RawOffer
offers_of r u = offered (slice_index_or r.offers u None)

abbrev pub bids_of : Register → ℕ → Option Asked
bids_of r g = asking (slice_index_or r.bids g None)

-- what a day shows, by its points posted, its entry count and its tables
abbrev pub shown_of : ℕ → ℕ → Register → PointState → Ledger → View
shown_of posted entered r s l = record {
  posted = posted;
  stage = stage_of s;
  entered = entered;
  tariff = tariff_at r.tariffs;
  offers = offers_of r;
  bids = bids_of r;
  money = money_of l;
}

-- a day with this register, being entered for the first time
abbrev pub point_of : Register → View
point_of r = record { posted = 0; stage = entering; entered = 0; tariff = tariff_at r.tariffs; offers = offers_of r; bids = bids_of r; money = no_money }

-- Two entries of one point: they agree in capacities, bids and needs, and in the level of each place that has a tier.
pub record SameEntries (e f : Entries) : Type 0 where
  pub capacity : e.capacity ≡ f.capacity
  pub bid : e.bid ≡ f.bid
  pub need : e.need ≡ f.need
  pub level : (p : ℕ) → 0 < e.capacity p → level e p ≡ level f p

-- the calls that only a point being entered takes
abbrev pub wants_entry : CallKind → Bool
wants_entry kind.Tariff = true
wants_entry kind.Offer = true
wants_entry kind.Withdraw = true
wants_entry kind.Bid = true
wants_entry kind.Clear = true
wants_entry kind.Reopen = false
wants_entry kind.Post = false

-- What makes an offer, a bid or a tariff acceptable by its own figures, and the tiers of an accepted offer.
use Rattle.std.specs.Prelude.{◌≡◌, ℕ, zero, suc, ◌+◌, ◌*◌, ◌<◌, Bool, true, not, ◌&&◌, ◌||◌, List, [], ◌∷◌, map, is_some, Some, None, Ok, Err, Option, Result, ◌==◌, nat_le, nat_lt, slice_index}
use Rattle.std.specs.List.{list_any}
use Rattle.market.specs.Maxima.{unit_count, grid_count, branch_dispatch, bands_of_unit, max_figure, max_need, max_price, max_offer, max_tariff}
use Rattle.market.specs.Classes.{class_number, class_at}
use Rattle.market.specs.declared.classes.Class.{Class}
use Rattle.market.specs.Refusals.{refusal_of, market_refusal}
use Rattle.market.specs.Rows.{Row, row}
use Rattle.market.specs.Bands.{Figures, scheme_of, figures_of, capacity_of}
use Rattle.market.specs.Landing.{landed}
use Rattle.market.specs.declared.refusals.Refusal.{Refusal}
use Rattle.market.specs.declared.refusals.MarketRefusal.{MarketRefusal}
use Rattle.market.specs.declared.entries.RawOffer.{RawOffer}
use Rattle.market.specs.declared.entries.UnitOffer.{UnitOffer}
use Rattle.market.specs.declared.figures.Charges.{Charges}
use Rattle.market.specs.declared.tiers.Tier.{Tier}

-- some figure is above the maximum
abbrev pub any_above : ℕ → List ℕ → Bool
any_above m = list_any (nat_lt m)

-- the five figures of an offer as it is handed over
abbrev pub figures_in : RawOffer → Figures
figures_in r = record { nameplate = r.nameplate; own_derate = r.own_derate; network_derate = r.network_derate; kept_reserve = r.kept_reserve; plan = r.plan }

abbrev pub listed : Figures → List ℕ
listed f = f.nameplate ∷ f.own_derate ∷ f.network_derate ∷ f.kept_reserve ∷ f.plan ∷ []

-- derates, reserve and plan exceed the nameplate
abbrev pub exceeds_nameplate : Figures → Bool
exceeds_nameplate f = nat_lt f.nameplate (f.own_derate + f.network_derate + f.kept_reserve + f.plan)

-- offers that rise over m bands, each at least the one before, and are 0 behind them
abbrev pub keeps_bands : ℕ → ℕ → List ℕ → Bool
keeps_bands m before [] = true
keeps_bands zero before (o ∷ os) = o == 0 && keeps_bands zero before os
keeps_bands (suc m) before (o ∷ os) = nat_le before o && keeps_bands m o os

-- offers that keep to the bands of the unit's class
abbrev pub keeps_class : Option Class → List ℕ → Bool
keeps_class None offers = true
keeps_class (Some c) offers = keeps_bands (scheme_of c).bands 0 offers

-- why an offer is declined, by its own figures
abbrev pub offer_rows : RawOffer → List Row
offer_rows r =
    row (nat_le unit_count r.unit) (refusal_of 4 2 r.unit)
    ∷ row (nat_le grid_count r.grid) (refusal_of 4 2 r.grid)
    ∷ row (not (is_some (class_at r.class))) (refusal_of 4 2 r.class)
    ∷ row (any_above max_figure (listed (figures_in r)) || any_above max_offer r.offers) (refusal_of 5 2 r.unit)
    ∷ row (exceeds_nameplate (figures_in r)) (refusal_of 6 2 r.unit)
    ∷ row (not (keeps_class (class_at r.class) r.offers)) (refusal_of 7 2 r.unit)
    ∷ []

-- an accepted offer as it was handed over
abbrev pub handed_over : UnitOffer → RawOffer
handed_over o = record {
  unit = o.unit.number;
  grid = o.grid.number;
  class = class_number o.class;
  nameplate = o.figures.nameplate;
  own_derate = o.figures.own_derate;
  network_derate = o.figures.network_derate;
  kept_reserve = o.figures.kept_reserve;
  plan = o.figures.plan;
  offers = map (λ x. x.yuan) o.offers;
}

-- why a bid is declined, by its own figures
abbrev pub bid_rows : ℕ → ℕ → ℕ → List Row
bid_rows grid price need =
    row (nat_le grid_count grid) (refusal_of 4 2 grid)
    ∷ row (nat_lt max_price price || nat_lt max_need need) (refusal_of 5 2 grid)
    ∷ []

-- why a tariff is declined, by its own figures; 16 names the branch
abbrev pub tariff_rows : ℕ → ℕ → List Row
tariff_rows grid fen =
    row (nat_lt grid_count grid) (refusal_of 4 2 grid)
    ∷ row (nat_lt max_tariff fen || (grid == branch_dispatch && not (fen == 0))) (refusal_of 5 2 grid)
    ∷ []

-- what a call of the market answered
abbrev pub market_answer : {X : Type 0} → Result X MarketRefusal → Option Refusal
market_answer (Ok x) = None
market_answer (Err e) = Some (market_refusal e)

-- the capacity of an accepted offer in a band
abbrev pub capacity_in : UnitOffer → ℕ → ℕ
capacity_in o band = capacity_of (scheme_of o.class) (figures_of o.figures) band

-- The tier of an accepted offer in a band.
pub record TierOf (o : UnitOffer) (charges : Charges) (band : ℕ) (t : Tier) : Type 0 where
  pub some : 0 < t.capacity
  pub capacity : t.capacity ≡ capacity_in o band
  pub landing : t.landed.fen ≡ landed (slice_index (map (λ x. x.yuan) o.offers) band) charges
  pub class : t.class ≡ o.class
  pub place : t.place.number ≡ bands_of_unit * o.unit.number + band

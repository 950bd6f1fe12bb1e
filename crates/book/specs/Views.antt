-- What a running day shows.
use Rattle.std.specs.Prelude.{ℕ, ◌/◌, ◌%◌, Some, None, Option, slice_index}
use Rattle.market.specs.Bands.{scheme_of, capacity_of}
use Rattle.market.specs.Classes.{class_at}
use Rattle.market.specs.Entries.{figures_in}
use Rattle.market.specs.Landing.{between, landed_from}
use Rattle.market.specs.Maxima.{grid_count, bands_of_unit}
use Rattle.market.specs.declared.classes.Class.{Class}
use Rattle.market.specs.declared.entries.RawOffer.{RawOffer}
use Rattle.outcome.specs.Entries.{Entries}
use Rattle.outcome.specs.Outcome.{Outcome}
use Rattle.outcome.specs.View.{figure_of}

-- A clearing as it is declared: awards by place, all that a grid got, and by bid the quantity and price of the segment and a grid's share in it.
pub record Declaration : Type 0 where
  pub award : ℕ → ℕ
  pub got : ℕ → ℕ
  pub quantity : ℕ → ℕ
  pub price : ℕ → ℕ
  pub share : ℕ → ℕ → ℕ

abbrev pub declared : Outcome → Declaration
declared o = record { award = o.award; got = o.got; quantity = o.quantity; price = o.price; share = o.share }

-- A point is being entered, or cleared.
pub data Stage : Type 0 where
  entering : Stage
  cleared : Declaration → Stage

-- A grid's bid.
pub record Asked : Type 0 where
  pub price : ℕ
  pub need : ℕ

-- Money in fortieths of a fen: what a buyer is charged, what a unit, a grid's wires and the branch receive.
pub record Money : Type 0 where
  pub charge : ℕ → ℕ
  pub unit : ℕ → ℕ
  pub wires : ℕ → ℕ
  pub branch : ℕ

pub record View : Type 0 where
  pub posted : ℕ
  pub stage : Stage
  pub entered : ℕ
  -- by grid, with the branch's at 16
  pub tariff : ℕ → ℕ
  -- by unit
  pub offers : ℕ → Option RawOffer
  -- by grid
  pub bids : ℕ → Option Asked
  pub money : Money

abbrev pub no_money : Money
no_money = record { charge = λ g. 0; unit = λ u. 0; wires = λ g. 0; branch = 0 }

-- A day starts empty at point 1 with all tariffs 0.
abbrev pub empty_day : View
empty_day = record {
  posted = 0;
  stage = entering;
  entered = 0;
  tariff = λ g. 0;
  offers = λ u. None;
  bids = λ g. None;
  money = no_money;
}

-- the capacity of a unit of this class in a band
abbrev pub capacity_under : Option Class → RawOffer → ℕ → ℕ
capacity_under None r band = 0
capacity_under (Some c) r band = capacity_of (scheme_of c) (figures_in r) band

-- what lies between a landed offer and the unit's receipt, for a unit of this grid
abbrev pub between_at : View → ℕ → ℕ
between_at v grid = between (v.tariff grid) (v.tariff grid_count)

-- the entries of the point: the place p is the band p % 4 of the unit p / 4
abbrev pub entries_in : View → Entries
entries_in v = record {
  capacity = λ p. figure_of (λ r. capacity_under (class_at r.class) r (p % bands_of_unit)) (v.offers (p / bands_of_unit));
  landed = λ p. figure_of (λ r. landed_from (slice_index r.offers (p % bands_of_unit)) (between_at v r.grid)) (v.offers (p / bands_of_unit));
  class = λ p. figure_of (λ r. r.class) (v.offers (p / bands_of_unit));
  bid = λ g. figure_of (λ b. b.price) (v.bids g);
  need = λ g. figure_of (λ b. b.need) (v.bids g);
}

-- Headroom, band schemes and the capacities of the bands.
use Rattle.std.specs.Prelude.{◌≡◌, ℕ, zero, suc, ◌+◌, ◌-◌, ◌*◌, ◌/◌, ◌<◌, ◌≤◌, min, max, cond, List, [], ◌∷◌, sum, nat_lt, slice_index_or}
use Rattle.market.specs.Maxima.{bands_of_unit}
use Rattle.market.specs.declared.classes.Class.{Class}
use Rattle.market.specs.declared.classes.Class.TheVariants.{Hydro, Storage, Gas, LargeUltraLowCoal, SmallUltraLowCoal, LargeCoal, SmallCoal}
use Rattle.market.specs.declared.figures.UnitFigures.{UnitFigures}

-- A band scheme: how many bands, and their edges in per cent of the nameplate. Edge k is the lower edge of band k.
pub record Scheme : Type 0 where
  pub bands : ℕ
  pub percent : ℕ → ℕ

-- The percentages rise and end at 100, and a unit has a place for each band.
pub record Rising (s : Scheme) : Type 0 where
  pub rises : (k : ℕ) → k < s.bands → s.percent k < s.percent (suc k)
  pub ends : s.percent s.bands ≡ 100
  pub placed : s.bands ≤ bands_of_unit

-- gas and coal
abbrev pub three_bands : Scheme
three_bands = record { bands = 3; percent = λ k. slice_index_or (0 ∷ 50 ∷ 85 ∷ 100 ∷ []) k 100 }

-- hydro and storage
abbrev pub one_band : Scheme
one_band = record { bands = 1; percent = λ k. slice_index_or (0 ∷ 100 ∷ []) k 100 }

abbrev pub scheme_of : Class → Scheme
scheme_of Hydro = one_band
scheme_of Storage = one_band
scheme_of Gas = three_bands
scheme_of LargeUltraLowCoal = three_bands
scheme_of SmallUltraLowCoal = three_bands
scheme_of LargeCoal = three_bands
scheme_of SmallCoal = three_bands

-- a unit's five figures, in tenths
pub record Figures : Type 0 where
  pub nameplate : ℕ
  pub own_derate : ℕ
  pub network_derate : ℕ
  pub kept_reserve : ℕ
  pub plan : ℕ

abbrev pub figures_of : UnitFigures → Figures
figures_of f = record { nameplate = f.nameplate; own_derate = f.own_derate; network_derate = f.network_derate; kept_reserve = f.kept_reserve; plan = f.plan }

-- the stretch of output directly above plan: what is left of the nameplate
abbrev pub headroom_of : Figures → ℕ
headroom_of f = f.nameplate - f.own_derate - f.network_derate - f.kept_reserve - f.plan

-- where the stretch ends
abbrev pub top_of : Figures → ℕ
top_of f = f.plan + headroom_of f

-- the output at which the edge k lies, rounded down
abbrev pub edge_of : Scheme → ℕ → ℕ → ℕ
edge_of s nameplate k = nameplate * s.percent k / 100

-- the length of the part of the stretch between the edges of the band k
abbrev pub capacity_of : Scheme → Figures → ℕ → ℕ
capacity_of s f k = cond (nat_lt k s.bands) (min (top_of f) (edge_of s f.nameplate (suc k)) - max f.plan (edge_of s f.nameplate k)) 0

-- the capacities of m bands from the band k on
abbrev pub capacities_from : Scheme → Figures → ℕ → ℕ → List ℕ
capacities_from s f k zero = []
capacities_from s f k (suc m) = capacity_of s f k ∷ capacities_from s f (suc k) m

-- the capacities of all bands
abbrev pub capacities : Scheme → Figures → List ℕ
capacities s f = capacities_from s f 0 s.bands

-- The capacities add up to the part of the stretch above the first edge.
abbrev pub AddsUp : Scheme → Figures → Type 0
AddsUp s f = sum (capacities s f) ≡ top_of f - max f.plan (edge_of s f.nameplate 0)

-- In a scheme from 0 they add up to the headroom.
abbrev pub AddsUpFromZero : Scheme → Figures → Type 0
AddsUpFromZero s f = s.percent 0 ≡ 0 → sum (capacities s f) ≡ headroom_of f

-- Cases worked by hand.
use Rattle.std.specs.Prelude.{◌≡◌, [], ◌∷◌}
use Rattle.market.specs.Bands.{Figures, three_bands, headroom_of, capacities}
use Rattle.market.specs.Sharing.{shares_of}

-- nameplate 6,000, derates 100 and 0, reserve 200, plan 4,000
abbrev pub worked_figures : Figures
worked_figures = record { nameplate = 6000; own_derate = 100; network_derate = 0; kept_reserve = 200; plan = 4000 }

-- Its headroom is 1,700 and its capacities are 0, 1,100 and 600.
abbrev pub WorkedCapacities : Type 0
WorkedCapacities = (headroom_of worked_figures ≡ 1700) × (capacities three_bands worked_figures ≡ 0 ∷ 1100 ∷ 600 ∷ [])

-- 5 over claims 3, 7 gives 1, 4, and 2 over 1, 1, 1 gives 0, 1, 1.
abbrev pub WorkedShares : Type 0
WorkedShares = (shares_of 5 (3 ∷ 7 ∷ []) ≡ 1 ∷ 4 ∷ []) × (shares_of 2 (1 ∷ 1 ∷ 1 ∷ []) ≡ 0 ∷ 1 ∷ 1 ∷ [])

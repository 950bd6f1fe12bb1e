-- The awards that keep the limit of each grid.
use Rattle.std.specs.Prelude.{ℕ, ◌/◌, Bool, List, ◌==◌, slice_index}
use Rattle.lawful.specs.Awards.{AwardSet}
use Rattle.lawful.specs.Lawful.{grouped}
use Rattle.market.specs.Maxima.{grid_count, place_count, bands_of_unit}

-- the places of the units that hang on the grid g; the place p is one of the unit p / 4
abbrev pub on_grid : List ℕ → ℕ → ℕ → Bool
on_grid hangs g p = slice_index hangs (p / bands_of_unit) == g

-- the awards in which the units of each grid together keep its limit
abbrev pub by_grid : List ℕ → List ℕ → AwardSet
by_grid limits hangs = grouped place_count grid_count (on_grid hangs) (λ g. slice_index limits g)

-- The awards that keep the limits of a tree of corridors.
use Rattle.std.specs.Prelude.{ℕ, zero, suc, ◌/◌, Bool, false, not, ◌&&◌, ◌||◌, List, ◌==◌, slice_index}
use Rattle.lawful.specs.Awards.{AwardSet}
use Rattle.lawful.specs.Lawful.{grouped}
use Rattle.market.specs.Maxima.{place_count, bands_of_unit}

-- corridors are 0 to 31
abbrev pub corridor_count : ℕ
corridor_count = 32

-- the corridor d is c, or lies below it within so many steps; corridor 0 is the root
unfoldable pub below : List ℕ → ℕ → ℕ → ℕ → Bool
below parents zero d c = false
below parents (suc steps) d c = d == c || (not (d == 0) && below parents steps (slice_index parents d) c)

-- the places of the units that hang on the corridor c or below it, at any depth
abbrev pub in_corridor : List ℕ → List ℕ → ℕ → ℕ → Bool
in_corridor parents hangs c p = below parents corridor_count (slice_index hangs (p / bands_of_unit)) c

-- the awards in which all units below a corridor together keep its limit
abbrev pub by_corridor : List ℕ → List ℕ → List ℕ → AwardSet
by_corridor limits hangs parents = grouped place_count corridor_count (in_corridor parents hangs) (λ c. slice_index limits c)

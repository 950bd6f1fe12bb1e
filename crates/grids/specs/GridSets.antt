-- What a grid screen means, by its limits, its hangings and what is left of the limits.
use Rattle.std.specs.Prelude.{ℕ, List, [], ◌∷◌}
use Rattle.lawful.specs.Awards.{AwardSet}
use Rattle.screen.specs.Meaning.{Settings}
use Rattle.screen.specs.Numbers.{numbers}
use Rattle.grids.specs.ByGrid.{by_grid}
use Rattle.grids.specs.declared.GridScreen.{GridScreen}

-- the number of the grid on which each unit hangs
abbrev pub hangs_of : GridScreen → List ℕ
hangs_of s = numbers s.grids.hangs

-- the limits and the hangings
abbrev pub settings_of : GridScreen → Settings
settings_of s = s.grids.limits ∷ hangs_of s ∷ []

-- the awards that keep the limits
abbrev pub fresh_of : GridScreen → AwardSet
fresh_of s = by_grid s.grids.limits (hangs_of s)

-- the awards that keep what is left of the limits
abbrev pub ontop_of : GridScreen → AwardSet
ontop_of s = by_grid s.grids.left (hangs_of s)

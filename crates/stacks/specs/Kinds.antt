-- What a screen of any kind means: a stack over an open, a grid or a corridor base.
use Rattle.std.specs.Prelude.{ℕ, suc, ◌+◌, [], ◌∷◌, Some, None, Option}
use Rattle.std.specs.Option.{option_map}
use Rattle.lawful.specs.Awards.{AwardSet}
use Rattle.screen.specs.Meaning.{Settings}
use Rattle.screen.specs.declared.Screen.{Ghosts}
use Rattle.screen.specs.declared.NodeLimits.{Ghosts as Nodes}
use Rattle.shapes.specs.Shapes.{shape_of, layered, base_of, before_base, caps_in, ceiling_in}
use Rattle.stacks.specs.declared.AnyOf.{AnyOf}
use Rattle.stacks.specs.declared.AnyOf.TheVariants.{Open, Grid, Corridor}

-- the number of the kind of base
abbrev pub kind_of : {O G C : Type 0} → AnyOf O G C → ℕ
kind_of (Open s) = 0
kind_of (Grid s) = 1
kind_of (Corridor s) = 2

-- the number of the shape of the layers over the base
abbrev pub layers_of : {O G C : Type 0} → AnyOf O G C → ℕ
layers_of (Open s) = shape_of s
layers_of (Grid s) = shape_of s
layers_of (Corridor s) = shape_of s

-- the awards permitted at the start
abbrev pub fresh_of : {O G C : Type 0} → Ghosts O → Ghosts G → Ghosts C → AnyOf O G C → AwardSet
fresh_of o g c (Open s) = (layered o).fresh s
fresh_of o g c (Grid s) = (layered g).fresh s
fresh_of o g c (Corridor s) = (layered c).fresh s

-- the awards permitted on top of what was taken
abbrev pub ontop_of : {O G C : Type 0} → Ghosts O → Ghosts G → Ghosts C → AnyOf O G C → AwardSet
ontop_of o g c (Open s) = (layered o).ontop s
ontop_of o g c (Grid s) = (layered g).ontop s
ontop_of o g c (Corridor s) = (layered c).ontop s

-- the settings of the stack
abbrev pub settings_of : {O G C : Type 0} → Ghosts O → Ghosts G → Ghosts C → AnyOf O G C → Settings
settings_of o g c (Open s) = (layered o).settings s
settings_of o g c (Grid s) = (layered g).settings s
settings_of o g c (Corridor s) = (layered c).settings s

-- A screen of any kind means what its stack means. A first table of one number names the kind of its base.
abbrev pub any_of : {O G C : Type 0} → Ghosts O → Ghosts G → Ghosts C → Ghosts (AnyOf O G C)
any_of o g c =
    record { fresh = fresh_of o g c; ontop = ontop_of o g c; settings = λ s. (kind_of s ∷ []) ∷ settings_of o g c s }

-- how many grids or corridors there are
abbrev pub nodes_of : {O G C : Type 0} → Nodes G → Nodes C → AnyOf O G C → ℕ
nodes_of g c (Open s) = 0
nodes_of g c (Grid s) = g.nodes (base_of s)
nodes_of g c (Corridor s) = c.nodes (base_of s)

-- the table of the limits, where the base has some
abbrev pub limits_of : {O G C : Type 0} → Nodes G → Nodes C → AnyOf O G C → Option ℕ
limits_of g c (Open s) = None
limits_of g c (Grid s) = Some (suc (before_base g.layers s))
limits_of g c (Corridor s) = Some (suc (before_base c.layers s))

-- the table of the hangings, which follows the limits
abbrev pub hangs_of : {O G C : Type 0} → Nodes G → Nodes C → AnyOf O G C → Option ℕ
hangs_of g c (Open s) = None
hangs_of g c (Grid s) = Some (suc (before_base g.layers s + 1))
hangs_of g c (Corridor s) = Some (suc (before_base c.layers s + 1))

-- the table of the parents, where the base has some, which follows the hangings
abbrev pub parents_of : {O G C : Type 0} → Nodes C → AnyOf O G C → Option ℕ
parents_of c (Open s) = None
parents_of c (Grid s) = None
parents_of c (Corridor s) = Some (suc (before_base c.layers s + 2))

-- the table of the caps, where the stack has some
abbrev pub caps_of : {O G C : Type 0} → AnyOf O G C → Option ℕ
caps_of (Open s) = option_map suc (caps_in s)
caps_of (Grid s) = option_map suc (caps_in s)
caps_of (Corridor s) = option_map suc (caps_in s)

-- the table of the ceiling, where the stack has one
abbrev pub ceiling_of : {O G C : Type 0} → AnyOf O G C → Option ℕ
ceiling_of (Open s) = option_map suc (ceiling_in s)
ceiling_of (Grid s) = option_map suc (ceiling_in s)
ceiling_of (Corridor s) = option_map suc (ceiling_in s)

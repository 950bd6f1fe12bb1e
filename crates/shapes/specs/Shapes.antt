-- What a stack means, by its shape: the layers over its base.
use Rattle.std.specs.Prelude.{ℕ, suc, [], ◌∷◌, Some, None, Option}
use Rattle.lawful.specs.Awards.{AwardSet}
use Rattle.screen.specs.Meaning.{Settings}
use Rattle.screen.specs.declared.Screen.{Ghosts}
use Rattle.layers.specs.Stack.{under_caps, under_ceiling}
use Rattle.shapes.specs.declared.Layered.{Layered}
use Rattle.shapes.specs.declared.Layered.TheVariants.{Bare, Capped, Ceiled, CapOverCeiling, CeilingOverCap}

-- the numbers of the shapes
abbrev pub no_layer : ℕ
no_layer = 0

abbrev pub caps_only : ℕ
caps_only = 1

abbrev pub ceiling_only : ℕ
ceiling_only = 2

abbrev pub caps_first : ℕ
caps_first = 3

abbrev pub ceiling_first : ℕ
ceiling_first = 4

-- the number of the stack's shape
abbrev pub shape_of : {B : Type 0} → Layered B → ℕ
shape_of (Bare s) = no_layer
shape_of (Capped s) = caps_only
shape_of (Ceiled s) = ceiling_only
shape_of (CapOverCeiling s) = caps_first
shape_of (CeilingOverCap s) = ceiling_first

-- the awards permitted at the start
abbrev pub fresh_by : {B : Type 0} → Ghosts B → Layered B → AwardSet
fresh_by base (Bare s) = base.fresh s
fresh_by base (Capped s) = (under_caps base).fresh s
fresh_by base (Ceiled s) = (under_ceiling base).fresh s
fresh_by base (CapOverCeiling s) = (under_caps (under_ceiling base)).fresh s
fresh_by base (CeilingOverCap s) = (under_ceiling (under_caps base)).fresh s

-- the awards permitted on top of what was taken
abbrev pub ontop_by : {B : Type 0} → Ghosts B → Layered B → AwardSet
ontop_by base (Bare s) = base.ontop s
ontop_by base (Capped s) = (under_caps base).ontop s
ontop_by base (Ceiled s) = (under_ceiling base).ontop s
ontop_by base (CapOverCeiling s) = (under_caps (under_ceiling base)).ontop s
ontop_by base (CeilingOverCap s) = (under_ceiling (under_caps base)).ontop s

-- the settings of the layers and the base
abbrev pub settings_by : {B : Type 0} → Ghosts B → Layered B → Settings
settings_by base (Bare s) = base.settings s
settings_by base (Capped s) = (under_caps base).settings s
settings_by base (Ceiled s) = (under_ceiling base).settings s
settings_by base (CapOverCeiling s) = (under_caps (under_ceiling base)).settings s
settings_by base (CeilingOverCap s) = (under_ceiling (under_caps base)).settings s

-- A stack means what its layers and its base mean. A first table of one number names its shape.
abbrev pub layered : {B : Type 0} → Ghosts B → Ghosts (Layered B)
layered base =
    record { fresh = fresh_by base; ontop = ontop_by base; settings = λ s. (shape_of s ∷ []) ∷ settings_by base s }

-- the base under the layers
abbrev pub base_of : {B : Type 0} → Layered B → B
base_of (Bare s) = s
base_of (Capped s) = s.below
base_of (Ceiled s) = s.below
base_of (CapOverCeiling s) = s.below.below
base_of (CeilingOverCap s) = s.below.below

-- how many tables of layers stand before those of the base, where the base itself has so many before them
abbrev pub layers_over : {B : Type 0} → (B → ℕ) → Layered B → ℕ
layers_over inBase (Bare s) = inBase s
layers_over inBase (Capped s) = suc (inBase s.below)
layers_over inBase (Ceiled s) = suc (inBase s.below)
layers_over inBase (CapOverCeiling s) = suc (suc (inBase s.below.below))
layers_over inBase (CeilingOverCap s) = suc (suc (inBase s.below.below))

-- the same with the table that names the shape
abbrev pub before_base : {B : Type 0} → (B → ℕ) → Layered B → ℕ
before_base inBase s = suc (layers_over inBase s)

-- the table of the caps, where the stack has some
abbrev pub caps_in : {B : Type 0} → Layered B → Option ℕ
caps_in (Bare s) = None
caps_in (Capped s) = Some 1
caps_in (Ceiled s) = None
caps_in (CapOverCeiling s) = Some 1
caps_in (CeilingOverCap s) = Some 2

-- the table of the ceiling, where the stack has one
abbrev pub ceiling_in : {B : Type 0} → Layered B → Option ℕ
ceiling_in (Bare s) = None
ceiling_in (Capped s) = None
ceiling_in (Ceiled s) = Some 1
ceiling_in (CapOverCeiling s) = Some 2
ceiling_in (CeilingOverCap s) = Some 1

-- The settings of a screen decide its fresh set, also under layers.
use Rattle.std.proofs.Common.{◌≡◌, List, ◌∷◌, ℕ, [], get_or, drop, ap, ap₂}
use Rattle.screen.specs.Meaning.{Settings}
use Rattle.screen.specs.declared.Screen.{Ghosts}
use Rattle.layers.specs.Cutting.{both}
use Rattle.layers.specs.Stack.{under}
use Rattle.layers.specs.declared.cut.Cut.{Ghosts as Cuts}

-- the settings decide the fresh set
abbrev pub Decided : {S : Type 0} → Ghosts S → Type 0
Decided {S} screen = (s t : S) → screen.settings s ≡ screen.settings t → screen.fresh s ≡ screen.fresh t

-- the row of the limits decides what keeps them
abbrev pub RowDecides : {T : Type 0} → Cuts T → Type 0
RowDecides {T} limits = (s t : T) → limits.row s ≡ limits.row t → limits.kept s ≡ limits.kept t

-- the tables behind the first
pub tables_behind : {s t : Settings} {a b : List ℕ} → a ∷ s ≡ b ∷ t → s ≡ t
tables_behind e = ap (drop 1) e

-- the first table
pub first_table : {s t : Settings} {a b : List ℕ} → a ∷ s ≡ b ∷ t → a ≡ b
first_table e = ap (λ (x : Settings). get_or x 0 []) e

-- A layer keeps this.
pub decided_under : {S T : Type 0} (limits : Cuts T) (screen : Ghosts S) → RowDecides limits → Decided screen → Decided (under limits screen)
decided_under limits screen row below s t e =
    ap₂ both (below s.below t.below (tables_behind e)) (row s.table.limits t.table.limits (first_table e))

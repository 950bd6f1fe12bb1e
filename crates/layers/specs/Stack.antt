-- What a screen means with a layer over it.
use Rattle.std.specs.Prelude.{ℕ, List, [], ◌∷◌}
use Rattle.lawful.specs.Awards.{AwardSet}
use Rattle.screen.specs.declared.Screen.{Ghosts}
use Rattle.layers.specs.Cutting.{both, keeps_caps, keeps_ceiling}
use Rattle.layers.specs.declared.cut.Cut.{Ghosts as Cuts}
use Rattle.layers.specs.declared.layer.Layer.{Layer}
use Rattle.layers.specs.declared.caps.Caps.{Caps}
use Rattle.layers.specs.declared.ceiling.Ceiling.{Ceiling}

-- The limits cut both sets of the screen below, and stand as a table before its settings.
abbrev pub under : {S T : Type 0} → Cuts T → Ghosts S → Ghosts (Layer S T)
under limits screen =
    record {
      fresh = λ s. both (screen.fresh s.below) (limits.kept s.table.limits);
      ontop = λ s. both (screen.ontop s.below) (limits.kept s.table.left);
      settings = λ s. limits.row s.table.limits ∷ screen.settings s.below;
    }

-- the awards of the set that keep the cap of each place
abbrev pub by_caps : List ℕ → AwardSet → AwardSet
by_caps caps A = both A (keeps_caps caps)

-- the awards of the set that keep the ceiling on the total
abbrev pub by_ceiling : ℕ → AwardSet → AwardSet
by_ceiling limit A = both A (keeps_ceiling limit)

-- The caps cut both sets of the screen below, and stand before its settings.
abbrev pub under_caps : {S : Type 0} → Ghosts S → Ghosts (Layer S Caps)
under_caps screen =
    record {
      fresh = λ s. by_caps s.table.limits.caps (screen.fresh s.below);
      ontop = λ s. by_caps s.table.left.caps (screen.ontop s.below);
      settings = λ s. s.table.limits.caps ∷ screen.settings s.below;
    }

-- The ceiling cuts both sets of the screen below, and stands as a table of one number before its settings.
abbrev pub under_ceiling : {S : Type 0} → Ghosts S → Ghosts (Layer S Ceiling)
under_ceiling screen =
    record {
      fresh = λ s. by_ceiling s.table.limits.limit (screen.fresh s.below);
      ontop = λ s. by_ceiling s.table.left.limit (screen.ontop s.below);
      settings = λ s. (s.table.limits.limit ∷ []) ∷ screen.settings s.below;
    }

-- No table stands before that of the outermost layer.
abbrev pub outermost : {S : Type 0} → S → ℕ
outermost s = 0

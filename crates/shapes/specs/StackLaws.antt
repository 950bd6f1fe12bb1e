-- The laws of a screen, from a base up through the layers over it.
use Rattle.std.proofs.Common.{◌≡◌, ℕ, false, eqb, [], ◌∷◌, get_or, refl, ap, ap₂}
use Rattle.std.proofs.lemmas.Bool.{eqb-false}
use Rattle.lawful.specs.Lawful.{Lawful}
use Rattle.lawful.proofs.Cuts.{caps_keep_laws, total_limit_keeps_laws}
use Rattle.screen.specs.Meaning.{Settings}
use Rattle.screen.specs.declared.Screen.{Ghosts}
use Rattle.layers.specs.Decided.{Decided, tables_behind, first_table}
use Rattle.layers.specs.Stack.{by_caps, by_ceiling, under_caps, under_ceiling}
use Rattle.shapes.specs.Shapes.{layered}
use Rattle.shapes.specs.declared.Layered.{Layered}
use Rattle.shapes.specs.declared.Layered.TheVariants.{Bare, Capped, Ceiled, CapOverCeiling, CeilingOverCap}

-- A cap layer keeps this.
pub decided_under_caps : {S : Type 0} (screen : Ghosts S) → Decided screen → Decided (under_caps screen)
decided_under_caps screen below s t e =
    ap₂ by_caps (first_table e) (below s.below t.below (tables_behind e))

-- A ceiling layer keeps this.
pub decided_under_ceiling : {S : Type 0} (screen : Ghosts S) → Decided screen → Decided (under_ceiling screen)
decided_under_ceiling screen below s t e =
    ap₂ by_ceiling (ap (λ row. get_or row 0 0) (first_table e)) (below s.below t.below (tables_behind e))

-- Stacks of one number agree in the tables behind it.
pub alike : {s t : Settings} {k : ℕ} → (k ∷ []) ∷ s ≡ (k ∷ []) ∷ t → s ≡ t
alike e = tables_behind e

-- Stacks of two numbers have other settings.
pub unlike : {X : Type 0} {s t : Settings} (k j : ℕ) → eqb k j ≡ false → (k ∷ []) ∷ s ≡ (j ∷ []) ∷ t → X
unlike k j ne e =
    let same : k ≡ j = ap (λ (x : Settings). get_or (get_or x 0 []) 0 0) e in
    absurd (eqb-false k j ne same)

-- The fresh set of a stack is lawful where that of the base is.
pub layered_fresh_lawful : {B : Type 0} (base : Ghosts B) → ((s : B) → Lawful 256 (base.fresh s)) → (s : Layered B) → Lawful 256 ((layered base).fresh s)
layered_fresh_lawful base laws (Bare s) = laws s
layered_fresh_lawful base laws (Capped s) = caps_keep_laws 256 (λ p. get_or s.table.limits.caps p 0) _ (laws s.below)
layered_fresh_lawful base laws (Ceiled s) = total_limit_keeps_laws 256 s.table.limits.limit _ (laws s.below)
layered_fresh_lawful base laws (CapOverCeiling s) =
    caps_keep_laws 256 (λ p. get_or s.table.limits.caps p 0) _ (total_limit_keeps_laws 256 s.below.table.limits.limit _ (laws s.below.below))
layered_fresh_lawful base laws (CeilingOverCap s) =
    total_limit_keeps_laws 256 s.table.limits.limit _ (caps_keep_laws 256 (λ p. get_or s.below.table.limits.caps p 0) _ (laws s.below.below))

-- The open set of a stack is lawful where that of the base is.
pub layered_ontop_lawful : {B : Type 0} (base : Ghosts B) → ((s : B) → Lawful 256 (base.ontop s)) → (s : Layered B) → Lawful 256 ((layered base).ontop s)
layered_ontop_lawful base laws (Bare s) = laws s
layered_ontop_lawful base laws (Capped s) = caps_keep_laws 256 (λ p. get_or s.table.left.caps p 0) _ (laws s.below)
layered_ontop_lawful base laws (Ceiled s) = total_limit_keeps_laws 256 s.table.left.limit _ (laws s.below)
layered_ontop_lawful base laws (CapOverCeiling s) =
    caps_keep_laws 256 (λ p. get_or s.table.left.caps p 0) _ (total_limit_keeps_laws 256 s.below.table.left.limit _ (laws s.below.below))
layered_ontop_lawful base laws (CeilingOverCap s) =
    total_limit_keeps_laws 256 s.table.left.limit _ (caps_keep_laws 256 (λ p. get_or s.below.table.left.caps p 0) _ (laws s.below.below))

-- The settings of a stack decide its fresh set where those of the base do: other shapes have other settings.
pub layered_decided : {B : Type 0} (base : Ghosts B) → Decided base → Decided (layered base)
layered_decided base below (Bare s) (Bare t) e = below s t (alike e)
layered_decided base below (Bare s) (Capped t) e = unlike 0 1 refl e
layered_decided base below (Bare s) (Ceiled t) e = unlike 0 2 refl e
layered_decided base below (Bare s) (CapOverCeiling t) e = unlike 0 3 refl e
layered_decided base below (Bare s) (CeilingOverCap t) e = unlike 0 4 refl e
layered_decided base below (Capped s) (Bare t) e = unlike 1 0 refl e
layered_decided base below (Capped s) (Capped t) e = decided_under_caps base below s t (alike e)
layered_decided base below (Capped s) (Ceiled t) e = unlike 1 2 refl e
layered_decided base below (Capped s) (CapOverCeiling t) e = unlike 1 3 refl e
layered_decided base below (Capped s) (CeilingOverCap t) e = unlike 1 4 refl e
layered_decided base below (Ceiled s) (Bare t) e = unlike 2 0 refl e
layered_decided base below (Ceiled s) (Capped t) e = unlike 2 1 refl e
layered_decided base below (Ceiled s) (Ceiled t) e = decided_under_ceiling base below s t (alike e)
layered_decided base below (Ceiled s) (CapOverCeiling t) e = unlike 2 3 refl e
layered_decided base below (Ceiled s) (CeilingOverCap t) e = unlike 2 4 refl e
layered_decided base below (CapOverCeiling s) (Bare t) e = unlike 3 0 refl e
layered_decided base below (CapOverCeiling s) (Capped t) e = unlike 3 1 refl e
layered_decided base below (CapOverCeiling s) (Ceiled t) e = unlike 3 2 refl e
layered_decided base below (CapOverCeiling s) (CapOverCeiling t) e = decided_under_caps (under_ceiling base) (decided_under_ceiling base below) s t (alike e)
layered_decided base below (CapOverCeiling s) (CeilingOverCap t) e = unlike 3 4 refl e
layered_decided base below (CeilingOverCap s) (Bare t) e = unlike 4 0 refl e
layered_decided base below (CeilingOverCap s) (Capped t) e = unlike 4 1 refl e
layered_decided base below (CeilingOverCap s) (Ceiled t) e = unlike 4 2 refl e
layered_decided base below (CeilingOverCap s) (CapOverCeiling t) e = unlike 4 3 refl e
layered_decided base below (CeilingOverCap s) (CeilingOverCap t) e = decided_under_ceiling (under_caps base) (decided_under_caps base below) s t (alike e)

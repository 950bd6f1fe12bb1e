-- The laws of a screen of any kind, from those of the three bases.
use Rattle.std.proofs.Common.{refl}
use Rattle.lawful.specs.Lawful.{Lawful}
use Rattle.screen.specs.declared.Screen.{Ghosts}
use Rattle.layers.specs.Decided.{Decided}
use Rattle.shapes.specs.StackLaws.{layered_fresh_lawful, layered_ontop_lawful, layered_decided, alike, unlike}
use Rattle.stacks.specs.Kinds.{any_of}
use Rattle.stacks.specs.declared.AnyOf.{AnyOf}
use Rattle.stacks.specs.declared.AnyOf.TheVariants.{Open, Grid, Corridor}

module _ {O G C : Type 0} (o : Ghosts O) (g : Ghosts G) (c : Ghosts C) where
  -- The fresh set is lawful where those of the bases are.
  pub any_fresh_lawful : ((s : O) → Lawful 256 (o.fresh s)) → ((s : G) → Lawful 256 (g.fresh s)) → ((s : C) → Lawful 256 (c.fresh s)) → (s : AnyOf O G C) → Lawful 256 ((any_of o g c).fresh s)
  any_fresh_lawful in_open in_grid in_corridor (Open s) = layered_fresh_lawful o in_open s
  any_fresh_lawful in_open in_grid in_corridor (Grid s) = layered_fresh_lawful g in_grid s
  any_fresh_lawful in_open in_grid in_corridor (Corridor s) = layered_fresh_lawful c in_corridor s

  -- The open set is lawful where those of the bases are.
  pub any_ontop_lawful : ((s : O) → Lawful 256 (o.ontop s)) → ((s : G) → Lawful 256 (g.ontop s)) → ((s : C) → Lawful 256 (c.ontop s)) → (s : AnyOf O G C) → Lawful 256 ((any_of o g c).ontop s)
  any_ontop_lawful in_open in_grid in_corridor (Open s) = layered_ontop_lawful o in_open s
  any_ontop_lawful in_open in_grid in_corridor (Grid s) = layered_ontop_lawful g in_grid s
  any_ontop_lawful in_open in_grid in_corridor (Corridor s) = layered_ontop_lawful c in_corridor s

  -- The settings decide the fresh set where they do for the bases: other kinds have other settings.
  pub any_decided : Decided o → Decided g → Decided c → Decided (any_of o g c)
  any_decided in_open in_grid in_corridor (Open s) (Open t) e = layered_decided o in_open s t (alike e)
  any_decided in_open in_grid in_corridor (Open s) (Grid t) e = unlike 0 1 refl e
  any_decided in_open in_grid in_corridor (Open s) (Corridor t) e = unlike 0 2 refl e
  any_decided in_open in_grid in_corridor (Grid s) (Open t) e = unlike 1 0 refl e
  any_decided in_open in_grid in_corridor (Grid s) (Grid t) e = layered_decided g in_grid s t (alike e)
  any_decided in_open in_grid in_corridor (Grid s) (Corridor t) e = unlike 1 2 refl e
  any_decided in_open in_grid in_corridor (Corridor s) (Open t) e = unlike 2 0 refl e
  any_decided in_open in_grid in_corridor (Corridor s) (Grid t) e = unlike 2 1 refl e
  any_decided in_open in_grid in_corridor (Corridor s) (Corridor t) e = layered_decided c in_corridor s t (alike e)

-- The sets of the grid screen: their laws, the room at a place and what a take leaves.
use Rattle.std.specs.Prelude.{◌≡◌, ℕ, ◌+◌, ◌-◌, ◌/◌, ◌<◌, ◌≤◌, min, true, cond, List, length, slice_index, slice_set}
use Rattle.std.proofs.Common.{inl, inr, sym, ◌∙◌, arith, get_or-set_same, get_or-set_other}
use Rattle.std.proofs.lemmas.List.{get_or_past, length-set}
use Rattle.std.proofs.lemmas.Bool.{eqb-true, eq-eqb, ne_eqb, cases_eq, cases_lt}
use Rattle.lawful.specs.Lawful.{Lawful, Nested}
use Rattle.lawful.proofs.Groups.{nested_groups_are_lawful}
use Rattle.screen.specs.Meaning.{room_at, after_take}
use Rattle.screen.specs.Rooms.{room_is}
use Rattle.grids.specs.ByGrid.{on_grid, by_grid}
use Rattle.grids.specs.GridSets.{hangs_of, ontop_of}
use Rattle.grids.specs.declared.GridScreen.{GridScreen}
use Rattle.screen.specs.GroupRooms.{alone_up_to_least, take_lowers}

-- No place is on two grids.
grids_apart : (n m : ℕ) (hangs : List ℕ) → Nested n m (on_grid hangs)
grids_apart n m hangs g h less l =
    inr (λ p _ on-h. let e = eqb-true (slice_index hangs (p / 4)) h on-h in ne_eqb (slice_index hangs (p / 4)) g (λ d. omega arith))

-- Limits on grids keep the laws.
pub by_grid_lawful : (limits hangs : List ℕ) → Lawful 256 (by_grid limits hangs)
by_grid_lawful limits hangs = nested_groups_are_lawful 256 16 (on_grid hangs) (λ g. slice_index limits g) (grids_apart 256 16 hangs)

-- A screen s, and a place p whose unit hangs on the grid g.
module _ (s : GridScreen) (p g : ℕ) (inside : p < 256) (hung : g ≡ slice_index (hangs_of s) (p / 4)) where
  -- The room is what is left of the limit of the grid, at most 20,000.
  pub grid_room : g < 16 → room_at (ontop_of s) p ≡ min (slice_index s.grids.left g) 20000
  grid_room l =
      room_is (ontop_of s) p (slice_index s.grids.left g) inside
      (λ q _. alone_up_to_least 256 16 (on_grid (hangs_of s)) (λ h. slice_index s.grids.left h) p inside g l (eq-eqb (slice_index (hangs_of s) (p / 4)) g (sym hung)) only q)
    where
      only : (h : ℕ) → h < 16 → on_grid (hangs_of s) h p ≡ true → slice_index s.grids.left g ≤ slice_index s.grids.left h
      only h _ on-h = rw (hung ∙ eqb-true (slice_index (hangs_of s) (p / 4)) h on-h) (omega arith)

  -- What keeps the room keeps what is left of the limit of the grid.
  pub room_keeps_left : (q : ℕ) → g < 16 → q ≤ room_at (ontop_of s) p → q ≤ slice_index s.grids.left g
  room_keeps_left q l le = omega (arith, grid_room l)

  -- A take lowers what is left of the limit of the grid.
  pub grid_take : (q : ℕ) → q ≤ slice_index s.grids.left g
      → by_grid (slice_set s.grids.left g (slice_index s.grids.left g - q)) (hangs_of s) ≡ after_take (ontop_of s) p q
  grid_take q le =
      take_lowers 256 16 (on_grid (hangs_of s)) (λ h. slice_index s.grids.left h) p inside (λ h. slice_index (slice_set s.grids.left g (slice_index s.grids.left g - q)) h) q lowered
    where
      lowered_there : slice_index (slice_set s.grids.left g (slice_index s.grids.left g - q)) g + q ≡ slice_index s.grids.left g
      lowered_there =
          elim (cases_lt g (length s.grids.left)) [
            | inl l ↦ rw get_or-set_same (omega arith)
            | inr past ↦ omega (arith, get_or_past s.grids.left g 0 past, get_or_past (slice_set s.grids.left g (slice_index s.grids.left g - q)) g 0 (omega (arith, length-set s.grids.left g (slice_index s.grids.left g - q))))
          ]

      lowered : (h : ℕ) → h < 16 → slice_index (slice_set s.grids.left g (slice_index s.grids.left g - q)) h + cond (on_grid (hangs_of s) h p) q 0 ≡ slice_index s.grids.left h
      lowered h _ =
          elim (cases_eq h g) [
            | inl e ↦ rw (e, eq-eqb (slice_index (hangs_of s) (p / 4)) g (sym hung)) lowered_there
            | inr ne ↦ rw (get_or-set_other, ne_eqb (slice_index (hangs_of s) (p / 4)) h (λ d. ne (sym d ∙ sym hung))) (omega arith)
          ]

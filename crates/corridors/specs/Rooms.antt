-- Rooms and takes in a tree of corridors.
use Rattle.std.specs.Prelude.{◌≡◌, ℕ, ◌+◌, ◌/◌, ◌<◌, ◌≤◌, true, cond, List, nat_le, slice_index}
use Rattle.std.proofs.Common.{inl, inr, sym, ◌∙◌, arith}
use Rattle.std.proofs.lemmas.Bool.{cases_Bool, cases_lt, lt-ltb, le-leb, lt-leb}
use Rattle.lawful.specs.Awards.{zero_award, raise}
use Rattle.lawful.specs.Lawful.{Lawful}
use Rattle.lawful.proofs.Rooms.{within_room}
use Rattle.lawful.proofs.Groups.{nested_groups_are_lawful}
use Rattle.screen.specs.Meaning.{room_at, after_take}
use Rattle.screen.specs.Rooms.{room_is}
use Rattle.screen.specs.GroupRooms.{alone_permitted, take_lowers}
use Rattle.corridors.specs.ByCorridor.{corridor_count, below, in_corridor, by_corridor}
use Rattle.corridors.specs.Trees.{Falling, LeftAbove}
use Rattle.corridors.specs.Chains.{above_is_lower, corridors_nest}

module _ (left hangs parents : List ℕ) (p : ℕ) (l : p < 256) where
  -- A quantity that is left of each corridor above the place can be awarded there alone.
  left_is_in : (q : ℕ) → LeftAbove left parents (slice_index hangs (p / 4)) q → by_corridor left hangs parents (raise zero_award p q) ≡ true
  left_is_in q h = (alone_permitted 256 32 (in_corridor parents hangs) (λ c. slice_index left c) p l q).1 (λ c _ e. h c e)

  -- Where the quantities that are left of each corridor above the place after a take are lower by q, the awards permitted are those with q added at the place.
  pub lowered_is_taken : (after : List ℕ) (q : ℕ) → ((c : ℕ) → slice_index after c + cond (below parents corridor_count (slice_index hangs (p / 4)) c) q 0 ≡ slice_index left c)
      → by_corridor after hangs parents ≡ after_take (by_corridor left hangs parents) p q
  lowered_is_taken after q h = take_lowers 256 32 (in_corridor parents hangs) (λ c. slice_index left c) p l (λ c. slice_index after c) q (λ c _. h c)

  module _ (hung : (u : ℕ) → slice_index hangs u < corridor_count) (falling : Falling parents) where
    -- A quantity that can be awarded at the place alone is left of each corridor above it.
    in_is_left : (q : ℕ) → by_corridor left hangs parents (raise zero_award p q) ≡ true → LeftAbove left parents (slice_index hangs (p / 4)) q
    in_is_left q h c e =
        let k = above_is_lower parents falling 32 (slice_index hangs (p / 4)) c e in
        let u = hung (p / 4) in
        (alone_permitted 256 32 (in_corridor parents hangs) (λ c. slice_index left c) p l q).0 h c (omega arith) e

    -- The room is the least that is left above the place.
    pub least_is_room : (r : ℕ) → r ≤ 20000 → LeftAbove left parents (slice_index hangs (p / 4)) r
        → ((q : ℕ) → q ≤ 20000 → LeftAbove left parents (slice_index hangs (p / 4)) q → q ≤ r) → r ≡ room_at (by_corridor left hangs parents) p
    least_is_room r few kept most = omega (arith, room_is (by_corridor left hangs parents) p r l up_to_r)
      where
        up_to_r : (q : ℕ) → q ≤ 20000 → by_corridor left hangs parents (raise zero_award p q) ≡ nat_le q r
        up_to_r q k =
            elim (cases_lt r q) [
              | inl more ↦
                  elim (cases_Bool (by_corridor left hangs parents (raise zero_award p q))) [
                    | inl e ↦ absurd (omega (arith, most q k (in_is_left q e)))
                    | inr e ↦ e ∙ sym (lt-leb q r more)
                  ]
              | inr le ↦ left_is_in q (λ c e. omega (arith, kept c e)) ∙ sym (le-leb q r le)
            ]

-- The awards that keep the limits of a tree of corridors keep the laws.
pub corridors_lawful : (limits hangs parents : List ℕ) → ((u : ℕ) → slice_index hangs u < corridor_count) → Falling parents → Lawful 256 (by_corridor limits hangs parents)
corridors_lawful limits hangs parents hung falling =
    nested_groups_are_lawful 256 32 (in_corridor parents hangs) (λ c. slice_index limits c) (corridors_nest parents falling hangs hung)

-- What is no more than the room is left of each corridor above the place.
pub room_is_left : (left hangs parents : List ℕ) (p q : ℕ) → p < 256 → ((u : ℕ) → slice_index hangs u < corridor_count) → Falling parents
    → q ≤ room_at (by_corridor left hangs parents) p → LeftAbove left parents (slice_index hangs (p / 4)) q
room_is_left left hangs parents p q l hung falling h =
    in_is_left left hangs parents p l hung falling q
    (within_room 256 (by_corridor left hangs parents) p 20000 q (corridors_lawful left hangs parents hung falling) (rw (lt-ltb p 256 l) at h))

-- Which corridors lie below which: the chain from a corridor to the root falls in number.
use Rattle.std.specs.Prelude.{◌≡◌, ℕ, zero, suc, ◌/◌, ◌<◌, ◌≤◌, true, not, ◌&&◌, ◌||◌, ◌⊎◌, List, ◌==◌, slice_index}
use Rattle.std.proofs.Math.Logic.{inl, inr}
use Rattle.std.proofs.Math.Path.{refl, ap}
use Rattle.std.proofs.Common.{◌∙◌}
use native.Mathlib.Omega.{arith}
use Rattle.std.proofs.lemmas.Bool.{cases_Bool, cases_eq, cases_lt, both_ways, eq-eqb, eqb-true, eqb-false, ne_eqb, not-true, not_from_false, and_parts, and_from, or_cases, or_left, or_right, false≢true}
use Rattle.lawful.specs.Lawful.{Nested}
use Rattle.corridors.specs.ByCorridor.{corridor_count, below, in_corridor}
use Rattle.corridors.specs.Trees.{Falling}

module _ (parents : List ℕ) (falling : Falling parents) where
  -- More steps than the number of the corridor change nothing.
  below_any_steps : (n m d c : ℕ) → d < n → d < m → below parents n d c ≡ below parents m d c
  unfolding below
  below_any_steps zero m d c l k = absurd (omega arith)
  below_any_steps (suc n) zero d c l k = absurd (omega arith)
  below_any_steps (suc n) (suc m) d c l k =
      elim (cases_eq d 0) [
        | inl e ↦ rw e refl
        | inr ne ↦
            let f = falling d (omega arith) in
            ap (λ b. (d == c) || (not (d == 0) && b)) (below_any_steps n m (slice_index parents d) c (omega arith) (omega arith))
      ]

  -- A corridor below another is that one, or its parent is below it.
  below_cases : (n d c : ℕ) → below parents (suc n) d c ≡ true → (d ≡ c) ⊎ ((0 < d) × (below parents n (slice_index parents d) c ≡ true))
  unfolding below
  below_cases n d c h =
      elim (or_cases (d == c) (not (d == 0) && below parents n (slice_index parents d) c) h) [
        | inl e ↦ inl (eqb-true d c e)
        | inr e ↦
            let parts = and_parts (not (d == 0)) (below parents n (slice_index parents d) c) e in
            let ne = eqb-false d 0 (not-true (d == 0) parts.0) in
            inr (omega arith, parts.1)
      ]

  -- A corridor whose parent is below another is below it.
  below_by_parent : (n d c : ℕ) → 0 < d → below parents n (slice_index parents d) c ≡ true → below parents (suc n) d c ≡ true
  unfolding below
  below_by_parent n d c l h =
      or_right (d == c) (not (d == 0) && below parents n (slice_index parents d) c)
      (and_from (not (d == 0)) (below parents n (slice_index parents d) c) (not_from_false (d == 0) (ne_eqb d 0 (λ e. omega arith))) h)

  -- A corridor is below itself.
  below_itself : (n d : ℕ) → below parents (suc n) d d ≡ true
  unfolding below
  below_itself n d = or_left (d == d) (not (d == 0) && below parents n (slice_index parents d) d) (eq-eqb d d refl)

  -- What lies above has no greater number.
  pub above_is_lower : (n d c : ℕ) → below parents n d c ≡ true → c ≤ d
  unfolding below
  above_is_lower zero d c h = absurd (false≢true h)
  above_is_lower (suc n) d c h =
      elim (below_cases n d c h) [
        | inl e ↦ omega arith
        | inr e ↦ omega (arith, falling d e.0, above_is_lower n (slice_index parents d) c e.1)
      ]

  -- Of two corridors above one, the greater lies below the lesser.
  chain : (n d h g : ℕ) → d < n → n ≤ 32 → g ≤ h → below parents n d h ≡ true → below parents n d g ≡ true → below parents 32 h g ≡ true
  chain zero d h g l k o in-h in_g = absurd (omega arith)
  chain (suc n) d h g l k o in-h in_g =
      elim (below_cases n d h in-h) [
        | inl e ↦ rw (← e) (below_any_steps 32 (suc n) d g (omega arith) l ∙ in_g)
        | inr up-h ↦
            let f = falling d up-h.0 in
            elim (below_cases n d g in_g) [
              | inl e ↦ absurd (omega (arith, above_is_lower n (slice_index parents d) h up-h.1))
              | inr up-g ↦ chain n (slice_index parents d) h g (omega arith) (omega arith) o up-h.1 up-g.1
            ]
      ]

  -- What is below a corridor is below all that lie above it.
  through : (n d h g : ℕ) → d < n → n ≤ 32 → below parents n d h ≡ true → below parents 32 h g ≡ true → below parents n d g ≡ true
  through zero d h g l k in-h h-in-g = absurd (omega arith)
  through (suc n) d h g l k in-h h-in-g =
      elim (below_cases n d h in-h) [
        | inl e ↦ below_any_steps (suc n) 32 d g l (omega arith) ∙ rw e h-in-g
        | inr up ↦
            let f = falling d up.0 in
            below_by_parent n d g up.0 (through n (slice_index parents d) h g (omega arith) (omega arith) up.1 h-in-g)
      ]

  module _ (d : ℕ) (known : d < corridor_count) where
    -- A walk begins at its own corridor.
    pub walk_begins : below parents corridor_count d d ≡ true
    walk_begins = below_itself 31 d

    -- From a corridor of a walk, the walk goes on to the parent.
    pub walk_goes_on : (at : ℕ) → 0 < at → below parents corridor_count d at ≡ true → below parents corridor_count d (slice_index parents at) ≡ true
    walk_goes_on at l h =
        let f = falling at l in
        let k = above_is_lower 32 d at h in
        through 32 d at (slice_index parents at) known (omega arith) h
        (below_by_parent 31 at (slice_index parents at) l (below_any_steps 31 32 (slice_index parents at) (slice_index parents at) (omega arith) (omega arith) ∙ below_itself 31 (slice_index parents at)))

    -- Between a corridor of a walk and its parent the walk passes no other.
    pub walk_skips : (at c : ℕ) → 0 < at → below parents corridor_count d at ≡ true → below parents corridor_count d c ≡ true → slice_index parents at < c → at ≤ c
    walk_skips at c l in_at in_c Above-parent =
        elim (cases_lt c at) [
          | inl less ↦
              let k = above_is_lower 32 d at in_at in
              elim (below_cases 31 at c (chain 32 d at c known (omega arith) (omega arith) in_at in_c)) [
                | inl e ↦ omega arith
                | inr up ↦ absurd (omega (arith, above_is_lower 31 (slice_index parents at) c up.1))
              ]
          | inr le ↦ le
        ]

  -- Each corridor lies wholly inside or wholly outside every corridor of lower number.
  pub corridors_nest : (hangs : List ℕ) → ((u : ℕ) → slice_index hangs u < corridor_count) → Nested 256 32 (in_corridor parents hangs)
  corridors_nest hangs hung g h l k =
      elim (cases_Bool (below parents 32 h g)) [
        | inl inside ↦ inl (λ p lp in-h. through 32 (slice_index hangs (p / 4)) h g (hung (p / 4)) (omega arith) in-h inside)
        | inr outside ↦
            inr (λ p lp in-h. elim (cases_Bool (in_corridor parents hangs g p)) [
              | inl in_g ↦ absurd (both_ways (below parents 32 h g) outside (chain 32 (slice_index hangs (p / 4)) h g (hung (p / 4)) (omega arith) (omega arith) in-h in_g))
              | inr e ↦ e
            ])
      ]

-- Trees of corridors, what is left above a corridor, and a small worked tree.
use Rattle.std.specs.Prelude.{◌≡◌, ℕ, ◌<◌, ◌≤◌, true, false, List, ◌∷◌, replicate, slice_index}
use Rattle.lawful.specs.Awards.{AwardSet, zero_award, raise}
use Rattle.corridors.specs.ByCorridor.{corridor_count, below, by_corridor}

-- each corridor but the root has a parent of lower number
abbrev pub Falling : List ℕ → Type 0
Falling parents = (c : ℕ) → 0 < c → slice_index parents c < c

-- of the corridor d and of each corridor above it at least q is left
abbrev pub LeftAbove : List ℕ → List ℕ → ℕ → ℕ → Type 0
LeftAbove left parents d q = (c : ℕ) → below parents corridor_count d c ≡ true → q ≤ slice_index left c

-- a tree of two: the root has the limit 100, and corridor 1 below it the limit 70; unit 0 hangs on corridor 1, unit 1 on the root
abbrev pub two_corridors : AwardSet
two_corridors = by_corridor (100 ∷ 70 ∷ replicate 30 6000000) (1 ∷ replicate 63 0) (replicate 32 0)

-- the award of a at place 0 and b at place 4
abbrev pub award_of : ℕ → ℕ → ℕ → ℕ
award_of a b = raise (raise zero_award 0 a) 4 b

-- The two may be awarded 70 and 30, and neither more on corridor 1 nor more in all.
abbrev pub Worked : Type 0
Worked = (two_corridors (award_of 70 30) ≡ true) × (two_corridors (award_of 70 31) ≡ false) × (two_corridors (award_of 71 0) ≡ false)

-- What a corridor screen means, by its limits, its hangings, its parents and what is left of the limits.
use Rattle.std.proofs.Common.{◌≡◌, ℕ, zero, suc, ◌<◌, List, [], ◌∷◌, get_or, ap, arith}
use Rattle.lawful.specs.Awards.{AwardSet}
use Rattle.lawful.specs.Lawful.{Lawful}
use Rattle.market.specs.declared.figures.Numbered.{Numbered}
use Rattle.screen.specs.Meaning.{Settings}
use Rattle.screen.specs.Numbers.{numbers}
use Rattle.corridors.specs.ByCorridor.{by_corridor}
use Rattle.corridors.specs.Rooms.{corridors_lawful}
use Rattle.corridors.specs.declared.CorridorScreen.{CorridorScreen}

-- the number of the corridor on which each unit hangs
abbrev pub hangs_of : CorridorScreen → List ℕ
hangs_of s = numbers s.corridors.hangs

-- the number of the parent of each corridor
abbrev pub parents_of : CorridorScreen → List ℕ
parents_of s = numbers s.tree.parents

-- the limits, the hangings and the parents
abbrev pub settings_of : CorridorScreen → Settings
settings_of s = s.corridors.limits ∷ hangs_of s ∷ parents_of s ∷ []

-- the awards that keep the limits
abbrev pub fresh_of : CorridorScreen → AwardSet
fresh_of s = by_corridor s.corridors.limits (hangs_of s) (parents_of s)

-- the awards that keep what is left of the limits
abbrev pub ontop_of : CorridorScreen → AwardSet
ontop_of s = by_corridor s.corridors.left (hangs_of s) (parents_of s)

-- Each unit hangs on one of the 32 corridors.
numbers_known : (xs : List (Numbered 31)) (u : ℕ) → get_or (numbers xs) u 0 < 32
numbers_known [] u = omega arith
numbers_known (x ∷ xs) zero = x.ok
numbers_known (x ∷ xs) (suc u) = numbers_known xs u

pub hung_known : (s : CorridorScreen) (u : ℕ) → get_or (hangs_of s) u 0 < 32
hung_known s u = numbers_known s.corridors.hangs u

pub fresh_is_lawful : (s : CorridorScreen) → Lawful 256 (fresh_of s)
fresh_is_lawful s = corridors_lawful s.corridors.limits (hangs_of s) (parents_of s) (hung_known s) s.tree.falling

pub ontop_is_lawful : (s : CorridorScreen) → Lawful 256 (ontop_of s)
ontop_is_lawful s = corridors_lawful s.corridors.left (hangs_of s) (parents_of s) (hung_known s) s.tree.falling

pub settings_decide : (s t : CorridorScreen) → settings_of s ≡ settings_of t → fresh_of s ≡ fresh_of t
settings_decide s t e = ap (λ (tables : Settings). by_corridor (get_or tables 0 []) (get_or tables 1 []) (get_or tables 2 [])) e

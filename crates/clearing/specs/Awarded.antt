-- Awards and groups of tiers, read off the lists that hold them.
use Rattle.std.specs.Prelude.{ℕ, List, map, slice_index}
use Rattle.lawful.specs.Awards.{Award}
use Rattle.market.specs.declared.tiers.Tier.{Tier}

-- the award whose quantity at a place stands in the list at that index
abbrev pub award_of : List ℕ → Award
award_of xs p = slice_index xs p

-- the places of tiers
abbrev pub places_of : List Tier → List ℕ
places_of g = map (λ t. t.place.number) g

-- the capacities of tiers
abbrev pub capacities_of : List Tier → List ℕ
capacities_of g = map (λ t. t.capacity) g

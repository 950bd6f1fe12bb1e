-- How limits cut a set of awards: by the awards that keep them.
use Rattle.std.specs.Prelude.{ℕ, ◌&&◌, leb, List, nat_le, slice_index}
use Rattle.lawful.specs.Sums.{sum_to, all_below}
use Rattle.lawful.specs.Awards.{AwardSet}
use Rattle.market.specs.Maxima.{place_count}

-- the awards of both sets
abbrev pub both : AwardSet → AwardSet → AwardSet
both A K x = A x && K x

-- the awards that keep the cap of each place
abbrev pub keeps_caps : List ℕ → AwardSet
keeps_caps caps x = all_below place_count (λ p. leb (x p) (slice_index caps p))

-- the awards that keep the ceiling on the total
abbrev pub keeps_ceiling : ℕ → AwardSet
keeps_ceiling limit x = nat_le (sum_to place_count x) limit

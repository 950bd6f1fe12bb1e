-- The calls of a running day, with their arguments as they are handed over.
use Rattle.std.specs.Prelude.{ℕ}
use Rattle.lawful.specs.Awards.{AwardSet}
use Rattle.lawful.specs.Lawful.{Lawful}
use Rattle.market.specs.Maxima.{place_count}
use Rattle.market.specs.declared.entries.RawOffer.{RawOffer}

pub data Call : Type 0 where
  -- of a grid, or with 16 of the branch, in fen
  tariff : ℕ → ℕ → Call
  offer : RawOffer → Call
  withdraw : ℕ → Call
  -- grid, price, need
  bid : ℕ → ℕ → ℕ → Call
  -- through a screen, by what it permits; every screen's fresh set is lawful
  clear : (A : AwardSet) → Lawful place_count A → Call
  reopen : Call
  post : Call

-- the unit or grid that a call names, else 0
abbrev pub name_of : Call → ℕ
name_of (tariff grid fen) = grid
name_of (offer r) = r.unit
name_of (withdraw unit) = unit
name_of (bid grid price need) = grid
name_of (clear A laws) = 0
name_of reopen = 0
name_of post = 0

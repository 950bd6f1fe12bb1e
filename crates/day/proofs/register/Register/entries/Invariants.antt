use Rattle.std.proofs.Common.{◌≡◌, ℕ, ◌<◌, length, get_or, None}
use Rattle.market.specs.Maxima.{unit_count}
use Rattle.book.specs.Views.{entries_in}
use Rattle.day.specs.Shown.{point_of}
use Rattle.day.specs.Tiers.{TierAt}
use Rattle.day.proofs.register.Register.entries.Given as goal

-- The tier stands at each place filled so far, and the register has a slot for each unit.
abbrev pub invariant-loop-place : goal.invariant-loop-place
invariant-loop-place l =
    (k : ℕ) → k < l.place → TierAt (entries_in (point_of l.self)) k (get_or l.slot-items k None) × (length l.self.offers ≡ unit_count)

use Rattle.std.proofs.Common.{◌≡◌, ◌-◌}
use Rattle.day.specs.Day.{shown}
use Rattle.loads.specs.Loads.{tariffs_from}
use Rattle.loads.proofs.strips.strip_onto.Given as goal

-- The tariffs left are still to come; those before left the day as it is.
abbrev pub invariant-loop-grid : goal.invariant-loop-grid
invariant-loop-grid l = tariffs_from 17 0 l.bytes (shown l.initial.day) ≡ tariffs_from (17 - l.grid) l.grid l.bytes (shown l.day)

use Rattle.std.proofs.Common.{◌≡◌, ◌+◌, ◌-◌, ◌*◌, ◌≤◌, drop}
use Rattle.day.specs.Day.{shown}
use Rattle.loads.specs.Loads.{records_in, load_from}
use Rattle.loads.proofs.sheets.load_records.Given as goal

-- The records left are still to come; those before left the day and the screen as they are.
abbrev pub invariant-loop-position : goal.invariant-loop-position
invariant-loop-position g l =
    let layers = g.S.NodeLimits.layers in
    let nodes = g.S.NodeLimits.nodes in
    let settings = g.S.Screen.settings in
    let size = g.R.Record.BYTES in
    let in_bytes = records_in size (λ s. g.R.Entry.entry (g.R.Record.at_start s)) in
    (load_from (layers l.initial.screen) (nodes l.initial.screen) l.first (in_bytes l.count l.bytes) (shown l.initial.day, settings l.initial.screen)
    ≡ load_from (layers l.initial.screen) (nodes l.initial.screen) l.position-counter (in_bytes (l.first + l.count - l.position-counter) l.rest) (shown l.day, settings l.screen))
    × (l.rest ≡ drop (size * (l.position-counter - l.first)) l.bytes)
    × (nodes l.screen ≡ nodes l.initial.screen)
    × (layers l.screen ≡ layers l.initial.screen)
    × (g.S.Screen.ontop l.initial.screen ≡ g.S.Screen.fresh l.initial.screen → g.S.Screen.ontop l.screen ≡ g.S.Screen.fresh l.screen)
    × (l.first ≤ l.position-counter)

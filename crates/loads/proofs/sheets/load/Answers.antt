use Rattle.std.proofs.Common.{◌≡◌, ◌+◌, None, sym, ap, ◌∙◌, arith, List}
use Rattle.market.specs.Maxima.{grid_count}
use Rattle.market.specs.Rows.{topmost}
use Rattle.day.specs.Day.{shown}
use Rattle.sheet.specs.Layout.{sheet_rows}
use Rattle.loads.specs.Faults.{fault_of}
use Rattle.loads.specs.Loads.{Record, Desk, first_refusal, load_from, body_records, opened_to}
use Rattle.loads.proofs.Whole.{none_declines, begins, body_whole, carried, led_begun}
use Rattle.loads.proofs.sheets.load.Goals as goal

pub returns-clause-load : goal.returns-clause-load
returns-clause-load g c =
    let settings = g.S.Screen.settings in
    let L = g.S.NodeLimits.layers c.args.screen.now in
    let N = g.S.NodeLimits.nodes c.args.screen.now in
    let s = c.args.bytes.now in
    let v = shown c.args.day.now in
    let sheet = c.in_ok-sheet.sheet in
    let told = c.in_ok-sheet.ensures in
    let opening = c.open_limits.ensures in
    let d : Desk = (v, settings c.args.screen.now) in
    let z : Desk = (shown c.load_sheet.new.day, settings c.load_sheet.new.screen) in
    let point : v.posted + 1 ≡ c.from.result + 1 = omega (arith, c.from.ensures, c.points_posted.ensures) in
    let none : first_refusal v s ≡ None = none_declines v s (sym c.in_ok-admit.ensures) (ap (λ (p : _). topmost (sheet_rows s p)) point ∙ sym told.answer) in
    let records = body_whole s sheet.records.now sheet.header told.read.0 told.read.2 sheet.laid in
    begins L N s d none
    ∙ ap (λ (rs : List Record). load_from L N 0 rs (v, opened_to L N grid_count d.1)) (sym records)
    ∙ ap (λ (t : _). load_from L N 0 (body_records sheet.header sheet.records.now) (v, t)) (sym opening.set)
    ∙ carried L N (g.S.NodeLimits.layers c.open_limits.new.screen) (g.S.NodeLimits.nodes c.open_limits.new.screen) 0 (body_records sheet.header sheet.records.now)
    (v, settings c.open_limits.new.screen) (z, fault_of c.load_sheet.result) opening.shape.1 opening.shape.0 c.load_sheet.ensures.load

pub returns-clause-calls : goal.returns-clause-calls
returns-clause-calls g c =
    let v = shown c.args.day.now in
    let s = c.args.bytes.now in
    let d : Desk = (v, g.S.Screen.settings c.args.screen.now) in
    let z : Desk = (shown c.load_sheet.new.day, g.S.Screen.settings c.load_sheet.new.screen) in
    let point : v.posted + 1 ≡ c.from.result + 1 = omega (arith, c.from.ensures, c.points_posted.ensures) in
    let none : first_refusal v s ≡ None = none_declines v s (sym c.in_ok-admit.ensures) (ap (λ (p : _). topmost (sheet_rows s p)) point ∙ sym c.in_ok-sheet.ensures.answer) in
    led_begun (g.S.NodeLimits.layers c.args.screen.now) (g.S.NodeLimits.nodes c.args.screen.now) s d z (fault_of c.load_sheet.result) none (returns-clause-load g c)

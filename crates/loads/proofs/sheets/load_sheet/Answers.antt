use Rattle.std.proofs.Common.{◌+◌, ◌*◌, drop, Some, None, refl, ◌∙◌}
use Rattle.std.proofs.lemmas.Result.{err_from_is_err_and}
use Rattle.day.specs.Day.{shown}
use Rattle.loads.specs.Faults.{refusal_in, position_in}
use Rattle.loads.specs.Loads.{Desk, bids_in, limits_in}
use Rattle.loads.proofs.Whole.{carried, units_ended, bids_ended, limits_last}
use Rattle.loads.proofs.sheets.load_sheet.Goals as goal

pub returns-in_err-behind_units-clause-load : goal.returns-in_err-behind_units-clause-load
returns-in_err-behind_units-clause-load g c =
    let layers = g.S.NodeLimits.layers in
    let nodes = g.S.NodeLimits.nodes in
    let settings = g.S.Screen.settings in
    let L = layers c.args.screen.now in
    let N = nodes c.args.screen.now in
    let h = c.args.sheet.now.header in
    let s = c.args.sheet.now.records.now in
    let u = c.from-units.result in
    let b = c.from-bids.result in
    let t = c.from-limits.result in
    let d : Desk = (shown c.args.day.now, settings c.args.screen.now) in
    let x : Desk = (shown c.load_records.new.day, settings c.load_records.new.screen) in
    let e = c.in_err-behind_units.field-0.0 in
    let p = err_from_is_err_and c.from_residual.result c.from_residual.ensures.1 in
    rw (p.1, p.2) (units_ended L N u b t h s (drop (19 * u) s) (drop (9 * b) (drop (19 * u) s)) c.from-units.ensures c.from-bids.ensures c.from-limits.ensures refl refl
    d x (refusal_in e, position_in e) c.in_err-behind_units.ensures.load)

pub returns-in_err-behind_bids-clause-load : goal.returns-in_err-behind_bids-clause-load
returns-in_err-behind_bids-clause-load g c =
    let layers = g.S.NodeLimits.layers in
    let nodes = g.S.NodeLimits.nodes in
    let settings = g.S.Screen.settings in
    let L = layers c.args.screen.now in
    let N = nodes c.args.screen.now in
    let h = c.args.sheet.now.header in
    let s = c.args.sheet.now.records.now in
    let u = c.from-units.result in
    let b = c.from-bids.result in
    let t = c.from-limits.result in
    let d : Desk = (shown c.args.day.now, settings c.args.screen.now) in
    let x : Desk = (shown c.load_records.new.day, settings c.load_records.new.screen) in
    let y : Desk = (shown c.load_records-2.new.day, settings c.load_records-2.new.screen) in
    let behind = c.in_ok-behind_units.behind_units.now in
    let shape = c.load_records.ensures.shape in
    let e = c.in_err-behind_bids.field-0.0 in
    let p = err_from_is_err_and c.from_residual-in_err-behind_bids.result c.from_residual-in_err-behind_bids.ensures.1 in
    rw (p.1, p.2) (bids_ended L N u b t h s behind (drop (9 * b) behind) c.from-units.ensures c.from-bids.ensures c.from-limits.ensures c.in_ok-behind_units.ensures.behind refl
    d x y (refusal_in e, position_in e) c.in_ok-behind_units.ensures.load
    (carried L N (layers c.load_records.new.screen) (nodes c.load_records.new.screen) u (bids_in b behind) x (y, Some (refusal_in e, position_in e)) shape.1 shape.0 c.in_err-behind_bids.ensures.load))

pub returns-in_err-load_records-clause-load : goal.returns-in_err-load_records-clause-load
returns-in_err-load_records-clause-load g c =
    let layers = g.S.NodeLimits.layers in
    let nodes = g.S.NodeLimits.nodes in
    let settings = g.S.Screen.settings in
    let L = layers c.args.screen.now in
    let N = nodes c.args.screen.now in
    let h = c.args.sheet.now.header in
    let s = c.args.sheet.now.records.now in
    let u = c.from-units.result in
    let b = c.from-bids.result in
    let t = c.from-limits.result in
    let d : Desk = (shown c.args.day.now, settings c.args.screen.now) in
    let x : Desk = (shown c.load_records.new.day, settings c.load_records.new.screen) in
    let y : Desk = (shown c.load_records-2.new.day, settings c.load_records-2.new.screen) in
    let behind = c.in_ok-behind_units.behind_units.now in
    let shape = c.load_records.ensures.shape in
    let z : Desk = (shown c.load_records-3.new.day, settings c.load_records-3.new.screen) in
    let last = c.in_ok-behind_bids.behind_bids.now in
    let shape-2 = c.load_records-2.ensures.shape in
    let e = c.in_err-load_records.field-0.0 in
    let p = err_from_is_err_and c.from_residual-in_err-load_records.result c.from_residual-in_err-load_records.ensures.1 in
    rw (p.1, p.2) (limits_last L N u b t h s behind last c.from-units.ensures c.from-bids.ensures c.from-limits.ensures c.in_ok-behind_units.ensures.behind c.in_ok-behind_bids.ensures.behind
    d x y (z, Some (refusal_in e, position_in e)) c.in_ok-behind_units.ensures.load
    (carried L N (layers c.load_records.new.screen) (nodes c.load_records.new.screen) u (bids_in b behind) x (y, None) shape.1 shape.0 c.in_ok-behind_bids.ensures.load)
    (carried L N (layers c.load_records-2.new.screen) (nodes c.load_records-2.new.screen) (u + b) (limits_in t last) y (z, Some (refusal_in e, position_in e)) (shape-2.1 ∙ shape.1) (shape-2.0 ∙ shape.0) c.in_err-load_records.ensures.load))

pub returns-clause-load : goal.returns-clause-load
returns-clause-load g c =
    let layers = g.S.NodeLimits.layers in
    let nodes = g.S.NodeLimits.nodes in
    let settings = g.S.Screen.settings in
    let L = layers c.args.screen.now in
    let N = nodes c.args.screen.now in
    let h = c.args.sheet.now.header in
    let s = c.args.sheet.now.records.now in
    let u = c.from-units.result in
    let b = c.from-bids.result in
    let t = c.from-limits.result in
    let d : Desk = (shown c.args.day.now, settings c.args.screen.now) in
    let x : Desk = (shown c.load_records.new.day, settings c.load_records.new.screen) in
    let y : Desk = (shown c.load_records-2.new.day, settings c.load_records-2.new.screen) in
    let behind = c.in_ok-behind_units.behind_units.now in
    let shape = c.load_records.ensures.shape in
    let z : Desk = (shown c.load_records-3.new.day, settings c.load_records-3.new.screen) in
    let last = c.in_ok-behind_bids.behind_bids.now in
    let shape-2 = c.load_records-2.ensures.shape in
    limits_last L N u b t h s behind last c.from-units.ensures c.from-bids.ensures c.from-limits.ensures c.in_ok-behind_units.ensures.behind c.in_ok-behind_bids.ensures.behind
    d x y (z, None) c.in_ok-behind_units.ensures.load
    (carried L N (layers c.load_records.new.screen) (nodes c.load_records.new.screen) u (bids_in b behind) x (y, None) shape.1 shape.0 c.in_ok-behind_bids.ensures.load)
    (carried L N (layers c.load_records-2.new.screen) (nodes c.load_records-2.new.screen) (u + b) (limits_in t last) y (z, None) (shape-2.1 ∙ shape.1) (shape-2.0 ∙ shape.0) c.in_ok-load_records.ensures.load)

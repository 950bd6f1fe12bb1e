use Rattle.std.proofs.Common.{rules, ◌≡◌, ℕ, ◌+◌, ◌-◌, drop, arith, List, false, is_ok, None, Option, sym, ap, ◌∙◌}
use Rattle.market.specs.declared.refusals.Refusal.{Refusal}
use Rattle.day.specs.Day.{shown}
use Rattle.loads.specs.Faults.{fault_of, record_answer}
use Rattle.loads.specs.Loads.{Desk, at_position, onward, records_in, load_from}
use Rattle.loads.proofs.Stepping.{first_tells, behind_more, fault_ends}
use Rattle.loads.proofs.sheets.load_records.Goals as goal

pub returns-in_err-map_err-clause-load : goal.returns-in_err-map_err-clause-load
returns-in_err-map_err-clause-load g c =
    let at = c.loop-position in
    let layers = g.S.NodeLimits.layers in
    let nodes = g.S.NodeLimits.nodes in
    let settings = g.S.Screen.settings in
    let size = g.R.Record.BYTES in
    let end = c.args.first + c.args.count in
    let read : c.in_ok-record.record ≡ g.R.Record.at_start at.rest.now = search rules in
    let came : Desk = (shown c.enter.new.day, settings c.enter.new.screen) in
    let fault : fault_of c.from_residual-in_err-map_err.result ≡ at_position at.position-counter (record_answer c.enter.result) = search rules in
    let err : is_ok c.from_residual-in_err-map_err.result ≡ false = search rules in
    first_tells (layers c.args.screen.now) (nodes c.args.screen.now) (layers at.screen) (nodes at.screen) at.position-counter end size
    (λ s. g.R.Entry.entry (g.R.Record.at_start s)) at.rest.now _ (g.R.Entry.entry c.in_ok-record.record) (shown at.day) came.0 (settings at.screen) came.1 (record_answer c.enter.result)
    c.loop-position-test.true at.invariant.3 at.invariant.2 at.invariant.0 (ap g.R.Entry.entry read) c.enter.ensures.answer c.enter.ensures.day c.enter.ensures.set
    ∙ fault_ends came c.from_residual-in_err-map_err.result _ _ err fault

pub loop-position-preserved : goal.loop-position-preserved
loop-position-preserved g c =
    let at = c.loop-position in
    let layers = g.S.NodeLimits.layers in
    let nodes = g.S.NodeLimits.nodes in
    let settings = g.S.Screen.settings in
    let size = g.R.Record.BYTES in
    let end = c.args.first + c.args.count in
    let read : c.in_ok-record.record ≡ g.R.Record.at_start at.rest.now = search rules in
    let behind : c.in_ok-record.behind.now ≡ drop size at.rest.now = search rules in
    let came : Desk = (shown c.enter.new.day, settings c.enter.new.screen) in
    let none : at_position at.position-counter (record_answer c.enter.result) ≡ None = search rules in
    let in_bytes : ℕ → List ℕ → _ = records_in size (λ s. g.R.Entry.entry (g.R.Record.at_start s)) in
    let next : List ℕ → _ = λ rest. load_from (layers c.args.screen.now) (nodes c.args.screen.now) (at.position-counter + 1) (in_bytes (end - (at.position-counter + 1)) rest) in (
      first_tells (layers c.args.screen.now) (nodes c.args.screen.now) (layers at.screen) (nodes at.screen) at.position-counter end size
          (λ s. g.R.Entry.entry (g.R.Record.at_start s)) at.rest.now _ (g.R.Entry.entry c.in_ok-record.record) (shown at.day) came.0 (settings at.screen) came.1 (record_answer c.enter.result)
          c.loop-position-test.true at.invariant.3 at.invariant.2 at.invariant.0 (ap g.R.Entry.entry read) c.enter.ensures.answer c.enter.ensures.day c.enter.ensures.set
          ∙ ap (λ (o : Option (Refusal × ℕ)). onward came o (next (drop size at.rest.now))) none ∙ ap (λ (b : List ℕ). next b came) (sym behind),
      behind_more size at.position-counter c.args.first c.args.bytes.now at.rest.now c.in_ok-record.behind.now at.invariant.5 at.invariant.1 behind,
      c.enter.ensures.shape.0 ∙ at.invariant.2,
      c.enter.ensures.shape.1 ∙ at.invariant.3,
      λ clear. c.enter.ensures.opened (at.invariant.4 clear),
      omega (arith, at.invariant.5),
    )

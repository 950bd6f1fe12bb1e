use Rattle.std.proofs.Common.{get_or, vec_items, refl, arith, rules}
use Rattle.std.proofs.lemmas.Result.{err_from_is_err_and}
use Rattle.day.specs.Day.{shown}
use Rattle.runs.proofs.Running.{running_none, running_more, running_all}
use Rattle.runs.proofs.run.Goals as goal

pub returns-in_err-steps : goal.returns-in_err-steps
returns-in_err-steps g c =
    let p = err_from_is_err_and c.from_residual.result c.from_residual.ensures.1 in
    record {
      promise = (λ s. g.met.S.Screen.fresh_lawful s, rw p.1 (search rules));
      screens = rw p.1 (search rules);
      unmade = search rules;
    }

pub loop-call-init : goal.loop-call-init
loop-call-init g c =
    let room = c.in_ok-steps.ensures in (
      running_none g.S.Screen (λ s. g.met.S.Screen.fresh_lawful s) c.args.calls.now (vec_items c.in_ok-steps.steps) (shown c.start-day.result)
          room.items c.start-day.ensures,
      room.capacity,
    )

pub push_reserved-requires : goal.push_reserved-requires
push_reserved-requires g c = omega (arith, c.loop-call.invariant.0.made, c.loop-call.invariant.1, c.loop-call.steps.ok.0, c.loop-call-test.true)

pub loop-call-preserved : goal.loop-call-preserved
loop-call-preserved g c =
    let at = c.loop-call in
    let step = c.make in
    let pushed = c.push_reserved in (
      running_more g.S.Screen (λ s. g.met.S.Screen.fresh_lawful s) c.args.calls.now at.call-index (vec_items at.steps) (vec_items pushed.new.self)
          at.calls (shown at.day) (shown step.new.day) (get_or at.calls at.call-index c.call-item.result) c.call-item.result step.new.call step.result
          at.invariant.0 (omega (arith, at.auto.calls, c.loop-call-test.true)) refl pushed.ensures.items
          step.ensures.turn step.ensures.shows step.ensures.left,
      omega (arith, at.invariant.1, pushed.ensures.capacity),
    )

pub returns : goal.returns
returns g c =
    let at = c.loop-call in
    let laws = λ (s : g.row.S.Denot). g.met.S.Screen.fresh_lawful s in
    let all = running_all g.S.Screen laws c.args.calls.now at.call-index at.calls (shown at.day) (record { steps = at.steps; day = c.close.result })
    at.invariant.0 c.loop-call-test.false c.close.ensures.promise in
    record { promise = (laws, all.0); screens = all.1; unmade = search rules }

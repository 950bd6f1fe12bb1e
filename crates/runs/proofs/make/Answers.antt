use Rattle.std.proofs.Common.{is_ok, sym, ap, ◌∙◌}
use Rattle.day.specs.Day.{shown}
use Rattle.runs.specs.Runs.{Makes, Leaves}
use Rattle.runs.specs.declared.DayCall.TheVariants.{Tariff, Offer, Withdraw, Bid, Clear, Reopen, Post}
use Rattle.runs.specs.declared.Step.{Step}
use Rattle.runs.proofs.Made.{made_by_way, screen_left}
use Rattle.runs.proofs.make.Goals as goal
use Rattle.runs.proofs.make.Goals.{in-Tariff, in-Offer, in-Withdraw, in-Bid, in-Clear, in-Reopen, in-Post}

pub returns : goal.returns
returns g c =
    let laws = λ (s : g.row.S.Denot). g.met.S.Screen.fresh_lawful s in
    let v = shown c.args.day.now in
    let day = c.match-call.day in
    let given = c.args.call.now in
    let after = c.match-call.call in
    let step : Step = record { answer = c.match-call.answer; declared = c.declared.result } in
    let made : Makes g.S.Screen v given step (shown day) × Leaves g.S.Screen given step after = elim c.match-call.branch [
      | in-Tariff w ↦
          made_by_way g.S.Screen laws v day w.tariff-answer.new.self given (Tariff w.in-Tariff.grid w.in-Tariff.fen) after step w.tariff-answer.result
          w.in-Tariff.is w.day-is w.answer-is w.tariff-answer.ensures.answer w.tariff-answer.ensures.day w.call-is
      | in-Offer w ↦
          made_by_way g.S.Screen laws v day w.offer-answer.new.self given (Offer w.in-Offer.raw) after step w.offer-answer.result
          w.in-Offer.is w.day-is w.answer-is w.offer-answer.ensures.answer w.offer-answer.ensures.day w.call-is
      | in-Withdraw w ↦
          made_by_way g.S.Screen laws v day w.withdraw-answer.new.self given (Withdraw w.in-Withdraw.unit) after step w.withdraw-answer.result
          w.in-Withdraw.is w.day-is w.answer-is w.withdraw-answer.ensures.answer w.withdraw-answer.ensures.day w.call-is
      | in-Bid w ↦
          made_by_way g.S.Screen laws v day w.bid-answer.new.self given (Bid w.in-Bid.grid w.in-Bid.price w.in-Bid.need) after step w.bid-answer.result
          w.in-Bid.is w.day-is w.answer-is w.bid-answer.ensures.answer w.bid-answer.ensures.day w.call-is
      | in-Clear w ↦
          let told = w.clear-answer.ensures in
          let ok = ap is_ok w.answer-is in
          made_by_way g.S.Screen laws v day w.clear-answer.new.self given (Clear w.in-Clear.screen) after step w.clear-answer.result
          w.in-Clear.is w.day-is w.answer-is told.day.1 told.day.2 (
            w.clear-answer.new.screen,
            w.call-is,
            screen_left g.S.Screen w.in-Clear.screen w.clear-answer.new.screen step (shown w.clear-answer.new.self).stage
                (c.declared.ensures.stage ∙ ap (λ d. (shown d).stage) w.day-is) told.set (λ yes. told.taken (sym ok ∙ yes)) (λ no. told.declined (sym ok ∙ no)),
          )
      | in-Reopen w ↦
          made_by_way g.S.Screen laws v day w.reopen-answer.new.self given Reopen after step w.reopen-answer.result
          w.in-Reopen.is w.day-is w.answer-is w.reopen-answer.ensures.answer w.reopen-answer.ensures.day (w.call-is ∙ w.in-Reopen.is)
      | in-Post w ↦
          made_by_way g.S.Screen laws v day w.post-answer.new.self given Post after step w.post-answer.result
          w.in-Post.is w.day-is w.answer-is w.post-answer.ensures.answer w.post-answer.ensures.day (w.call-is ∙ w.in-Post.is)
    ] in
    record { turn = made.0; shows = c.declared.ensures.stage; left = made.1 }

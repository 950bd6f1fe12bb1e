use Rattle.std.proofs.Common.{◌≡◌, ◌+◌, sym, rules}
use Rattle.book.specs.Calls.{offer}
use Rattle.book.specs.Histories.{turn}
use Rattle.day.specs.Shown.{shown_of}
use Rattle.day.specs.Day.{shown}
use Rattle.std.proofs.lemmas.Result.{err_from_is_err_and}
use Rattle.market.specs.Refusals.{market_refusal}
use Rattle.day.proofs.Following.{led_on, entry_stores, declined_by_figures, declined_turn}
use Rattle.day.proofs.RunningDay.offer.Goals as goal

pub invariant_of-self : goal.invariant_of-self
invariant_of-self c =
    let d = c.args.self.now in
    let call = offer c.args.raw.now in
    let after = shown_of d.posted (d.entered + 1) c.enter_offer.new.self d.state d.ledger in
    let shows : after ≡ turn call (shown d) = search rules in
    record { followed = led_on (shown d) after d.state d.state call d.followed shows (entry_stores after d.posted d.state c.args.raw.now.unit c.in_ok-admit.ensures) }

pub returns-in_err-offer : goal.returns-in_err-offer
returns-in_err-offer c =
    let d = c.args.self.now in
    let call = offer c.args.raw.now in
    let p = err_from_is_err_and c.from_residual-in_err-offer.result c.from_residual-in_err-offer.ensures.1 in
    let told = c.in_err-offer.ensures.answer in
    let declined = declined_by_figures (shown d) call (market_refusal p.0) c.in_ok-admit.ensures (rw (← p.2) at told) in
    record { answer = rw p.1 (sym declined); day = sym (declined_turn (shown d) call (market_refusal p.0) declined) }

use Rattle.std.proofs.Common.{◌≡◌, rules}
use Rattle.book.specs.Calls.{tariff}
use Rattle.book.specs.Histories.{turn}
use Rattle.day.specs.Shown.{shown_of}
use Rattle.day.specs.Day.{shown}
use Rattle.day.proofs.Following.{led_on, entry_stores}
use Rattle.day.proofs.RunningDay.tariff.Goals as goal

pub invariant_of-self : goal.invariant_of-self
invariant_of-self c =
    let d = c.args.self.now in
    let call = tariff c.args.grid c.args.fen in
    let after = shown_of d.posted d.entered c.set_tariff.new.self d.state d.ledger in
    let shows : after ≡ turn call (shown d) = search rules in
    record { followed = led_on (shown d) after d.state d.state call d.followed shows (entry_stores after d.posted d.state c.args.grid c.in_ok-admit.ensures) }

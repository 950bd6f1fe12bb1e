use Rattle.std.proofs.Common.{sym}
use Rattle.book.specs.Calls.{reopen}
use Rattle.day.specs.Day.{shown}
use Rattle.day.specs.declared.state.PointState.TheVariants.{Entering}
use Rattle.day.proofs.Following.{led_on, accepted_turn}
use Rattle.day.proofs.RunningDay.reopen.Goals as goal

pub invariant_of-self : goal.invariant_of-self
invariant_of-self c =
    let d = c.args.self.now in
    record { followed = led_on (shown d) _ d.state Entering reopen d.followed (sym (accepted_turn (shown d) reopen (sym c.in_ok-admit.ensures))) tt }

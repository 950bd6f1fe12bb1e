use Rattle.std.proofs.Common.{subst, rules}
use mathlib.Core.Logic.{∥∥₁_map}
use Rattle.day.specs.Followed.{Followed}
use Rattle.day.specs.Shown.{shown_of}
use Rattle.day.proofs.PostedDay.{reads_off, rows_rise}
use Rattle.day.proofs.RunningDay.declared.Goals as goal

pub returns-in-Entering : goal.returns-in-Entering
returns-in-Entering c = record { stage = search rules; rising = tt; led = ∥∥₁_map c.args.self.now.followed (λ x. (x.0, x.1)) }

pub returns-in-Cleared : goal.returns-in-Cleared
returns-in-Cleared c =
    let d = c.args.self.now in
    let tables = c.in-Cleared.cleared in
    let followed = subst (λ s. ∥ Followed (shown_of d.posted d.entered d.register s d.ledger) s ∥₁) c.in-Cleared.is d.followed in
    record {
      stage = search rules;
      rising = ((reads_off d.posted d.entered d.register tables d.ledger followed).few, rows_rise d.posted d.entered d.register tables d.ledger followed);
      led = ∥∥₁_map d.followed (λ x. (x.0, x.1));
    }

use Rattle.std.proofs.Common.{subst, rules}
use Rattle.book.specs.Views.{Money}
use Rattle.day.specs.Day.{ClosesWell}
use Rattle.desk.proofs.Desk.close.Goals as goal

pub returns : goal.returns
returns c =
    record {
      answer = search rules;
      long = search rules;
      few = search rules;
      bytes = search rules;
      led = search rules;
      promise = λ h is. subst (λ (m : Money). ClosesWell h m) c.close.ensures.accounts (c.close.ensures.promise h is);
    }

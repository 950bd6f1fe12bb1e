use Rattle.std.proofs.Common.{◌≡◌, [], rules}
use Rattle.book.specs.Views.{empty_day}
use Rattle.day.specs.Shown.{shown_of}
use Rattle.day.specs.declared.state.PointState.TheVariants.{Entering}
use Rattle.day.proofs.RunningDay.start.Goals as goal

pub invariant_of-result : goal.invariant_of-result
invariant_of-result c =
    let shows : shown_of 0 0 c.empty.result Entering c.empty-2.result ≡ empty_day = search rules in
    record { followed = ∣ ([], shows, tt) ∣₁ }

use Rattle.std.proofs.Common.{cond, None, sym, ap, ◌∙◌, subst}
use Rattle.std.specs.Prelude.{option_map}
use Rattle.std.specs.List.{find}
use Rattle.outcome.specs.Entries.{some_bids}
use Rattle.clearing.specs.declared.points.Segment.{Segment}
use Rattle.book.specs.Views.{entries_in}
use Rattle.day.specs.Day.{figures_at}
use Rattle.day.specs.Followed.{Followed}
use Rattle.day.specs.Shown.{point_of, segments_of, shown_of, stage_of}
use Rattle.day.proofs.SegmentsFound.{at_bid, told_at}
use Rattle.day.proofs.PostedDay.{bid_is_found}
use Rattle.day.proofs.RunningDay.segment.Goals as goal

pub returns-in-Cleared : goal.returns-in-Cleared
returns-in-Cleared c =
    let d = c.args.self.now in
    let tables = c.in-Cleared.cleared in
    let followed = subst (λ s. ∥ Followed (shown_of d.posted d.entered d.register s d.ledger) s ∥₁) c.in-Cleared.is d.followed in
    let some = some_bids (entries_in (point_of d.register)) c.args.bid in
    ap (option_map (λ (s : Segment). (s.quantity, s.price))) (c.segment_at.ensures ∙ ap (find (at_bid c.args.bid)) c.segments.ensures)
    ∙ told_at (λ s. (s.quantity, s.price)) (segments_of tables) c.args.bid some (bid_is_found d.posted d.entered d.register tables d.ledger followed c.args.bid)
    ∙ ap (λ s. cond some (figures_at (stage_of s) c.args.bid) None) (sym c.in-Cleared.is)

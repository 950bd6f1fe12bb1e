use Rattle.listings.specs.Rows.{row_text}
use Rattle.listings.proofs.Pages.{ListedOn}
use Rattle.listings.proofs.points.write_segments.Given as goal

-- The lines so far are added.
abbrev pub invariant-loop-segment : goal.invariant-loop-segment
invariant-loop-segment l = ListedOn l.initial.page (row_text l.segments) 65 l.segment-index l.page

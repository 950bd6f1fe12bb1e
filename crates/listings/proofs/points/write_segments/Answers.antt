use Rattle.std.proofs.Common.{[], ◌∷◌, length, get_or, subst, arith}
use Rattle.lines.specs.Lines.{line_of}
use Rattle.clearing.specs.declared.points.Segment.{Segment}
use Rattle.clearing.specs.Declaration.{blank_segment}
use Rattle.listings.specs.Pages.{Added}
use Rattle.listings.specs.Rows.{row_text}
use Rattle.listings.proofs.SegmentLines.{row_text_any}
use Rattle.listings.proofs.Texts.{three_long, above_long}
use Rattle.listings.proofs.Pages.{on_none, on_more, on_all}
use Rattle.listings.proofs.points.write_segments.Goals as goal

-- what is read where there is no row
abbrev none : Segment
none = record { bid = 0; quantity = 0; price = 0; shares = [] }

pub loop-segment-init : goal.loop-segment-init
loop-segment-init c = on_none c.args.page.now (row_text c.args.segments.now) 65

pub write_segment-requires : goal.write_segment-requires
write_segment-requires c = omega (arith, c.requires, c.loop-segment.invariant.listed.few, c.loop-segment.invariant.listed.long, c.loop-segment-test.true)

pub loop-segment-preserved : goal.loop-segment-preserved
loop-segment-preserved c =
    let i = c.loop-segment.segment-index in
    let s = get_or c.args.segments.now i blank_segment in
    on_more c.args.page.now (row_text c.args.segments.now) 65 i c.loop-segment.page c.write_segment.new.page
    c.loop-segment.invariant (above_long s.quantity 65 (line_of 83 (s.bid ∷ s.quantity ∷ s.price ∷ [])) (three_long 83 s.bid s.quantity s.price))
    (omega (arith, c.requires, c.loop-segment.invariant.listed.few, c.loop-segment-test.true))
    (subst (λ t. Added c.loop-segment.page c.write_segment.new.page t) (row_text_any c.args.segments.now i none c.loop-segment-test.true) c.write_segment.ensures)

pub returns : goal.returns
returns c =
    let all = on_all c.args.page.now (row_text c.args.segments.now) 65 c.loop-segment.segment-index (length c.args.segments.now) c.loop-segment.page c.loop-segment.invariant (omega arith) in
    record { text = all.0; few = omega (arith, all.1) }

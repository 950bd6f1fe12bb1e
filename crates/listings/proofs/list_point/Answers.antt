use Rattle.std.proofs.Common.{ℕ, List, ◌+◌, length, get_or, ap, ◌∙◌, subst, arith, rules}
use Rattle.lines.specs.Lines.{written}
use Rattle.clearing.specs.declared.points.Segment.{Segment}
use Rattle.day.specs.Day.{shown}
use Rattle.day.specs.Shown.{segments_of, declaration_of}
use Rattle.listings.specs.Listings.{lines_to, point_line, award_text, share_text}
use Rattle.listings.specs.Pages.{Added}
use Rattle.listings.specs.Rows.{row_text}
use Rattle.listings.proofs.Texts.{two_long}
use Rattle.listings.proofs.LinesTo.{four_written}
use Rattle.listings.proofs.Answered.{point_answer, point_lines}
use Rattle.listings.proofs.list_point.Goals as goal

pub write_segments-requires : goal.write_segments-requires
write_segments-requires c =
    omega (
      arith,
      ap length c.segments.ensures,
      c.in-Some.ensures.rising.1.few,
      c.write_point.ensures.end,
      c.write_point.ensures.long,
      c.if-buffer-lt-LISTING_ROOM.false,
      two_long 80 (c.points_posted-posted.result + 1) c.entry_count.result,
    )

pub write_awards-requires : goal.write_awards-requires
write_awards-requires c =
    omega (
      arith,
      ap length c.segments.ensures,
      c.in-Some.ensures.rising.1.few,
      c.write_point.ensures.end,
      c.write_point.ensures.long,
      c.write_segments.ensures.few,
      c.write_segments.ensures.text.long,
      c.if-buffer-lt-LISTING_ROOM.false,
      two_long 80 (c.points_posted-posted.result + 1) c.entry_count.result,
    )

pub write_shares-requires : goal.write_shares-requires
write_shares-requires c =
    omega (
      arith,
      ap length c.segments.ensures,
      c.in-Some.ensures.rising.1.few,
      c.write_point.ensures.end,
      c.write_point.ensures.long,
      c.write_segments.ensures.few,
      c.write_segments.ensures.text.long,
      c.write_awards.ensures.few,
      c.write_awards.ensures.text.long,
      c.if-buffer-lt-LISTING_ROOM.false,
      two_long 80 (c.points_posted-posted.result + 1) c.entry_count.result,
    )

pub returns : goal.returns
returns c =
    let b = c.args.buffer.now in
    let v = shown c.args.day.now in
    let declared = c.in-Some.cleared in
    let posted = c.points_posted-posted.result in
    let entered = c.entry_count.result in
    let head = c.write_point in
    let sold = c.write_segments in
    let awarded = c.write_awards in
    let all = c.write_shares in
    let rows = subst (λ (xs : List Segment). Added head.new.page sold.new.page (lines_to (length xs) (row_text xs))) c.segments.ensures sold.ensures.text in
    let listed = four_written b (point_line posted entered) (lines_to (length (segments_of declared)) (row_text (segments_of declared)))
    (lines_to 256 (λ (p : ℕ). award_text p (get_or declared.awards p 0))) (lines_to 16 (λ (g : ℕ). share_text g (get_or declared.got g 0)))
    head.new.page.end sold.new.page.end awarded.new.page.end all.new.page.end
    head.new.page.buffer.now sold.new.page.buffer.now awarded.new.page.buffer.now all.new.page.buffer.now
    head.ensures.end head.ensures.bytes rows.end rows.bytes awarded.ensures.text.end awarded.ensures.text.bytes all.ensures.text.end all.ensures.text.bytes in
    let lines = point_lines v declared posted entered c.points_posted-posted.ensures c.entry_count.ensures c.in-Some.ensures.stage c.in-Some.ensures.rising.1 in
    record {
      answer = point_answer v (declaration_of declared) (length b) (omega (arith, c.points_posted-posted.ensures, c.if-posted-ge-POINTS.false)) c.in-Some.ensures.stage (omega (arith, c.if-buffer-lt-LISTING_ROOM.false));
      long = listed.0 ∙ ap length lines;
      few = omega (arith, ap length c.segments.ensures, c.in-Some.ensures.rising.1.few, head.ensures.end, two_long 80 (posted + 1) entered, sold.ensures.few, awarded.ensures.few, all.ensures.few);
      bytes = search rules ∙ listed.1 ∙ ap (written b 0) lines;
    }

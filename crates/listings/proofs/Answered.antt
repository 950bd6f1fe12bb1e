-- What a listing answers, and that its parts make it.
use Rattle.std.proofs.Common.{◌≡◌, ℕ, ◌<◌, ◌≤◌, cond, not, ltb, leb, ◌++◌, length, get_or, Some, None, sym, ap, ◌∙◌, arith}
use Rattle.std.proofs.lemmas.Bool.{cond-true, cond-false, lt-ltb, le-ltb, lt-leb}
use Rattle.market.specs.Refusals.{refusal_of}
use Rattle.market.specs.Rows.{topmost}
use Rattle.clearing.specs.declared.points.Cleared.{Cleared}
use Rattle.book.specs.Tables.{is_cleared}
use Rattle.book.specs.Views.{View, Stage, cleared, Declaration}
use Rattle.day.specs.Shown.{segments_of, declaration_of}
use Rattle.day.specs.Day.{RisingRows}
use Rattle.listings.specs.Listings.{lines_to, point_line, award_text, share_text, segment_line, award_line, share_line, declaration_lines, stage_lines, point_listing, listing_rows, closing_rows}
use Rattle.listings.specs.Rows.{row_text}
use Rattle.listings.proofs.LinesTo.{lines_same}
use Rattle.listings.proofs.SegmentLines.{lines_over_rows}

-- Where there is room for a listing, no row is given for the buffer.
pub closing_answer : (room : ℕ) → 8192 ≤ room → None ≡ topmost (closing_rows room)
closing_answer room enough = sym (cond-false (ltb room 8192) (Some (refusal_of 13 2 0)) None (le-ltb room 8192 enough))

-- Nor is one at a cleared point before the last is posted.
pub point_answer : (v : View) (d : Declaration) (room : ℕ) → v.posted < 96 → cleared d ≡ v.stage → 8192 ≤ room → None ≡ topmost (listing_rows v room)
point_answer v d room before stage enough =
    closing_answer room enough
    ∙ sym (cond-false (not (is_cleared v.stage)) (Some (refusal_of 3 2 0)) (topmost (closing_rows room)) (ap (λ (s : Stage). not (is_cleared s)) (sym stage)))
    ∙ sym (cond-false (leb 96 v.posted) (Some (refusal_of 1 2 0)) (cond (not (is_cleared v.stage)) (Some (refusal_of 3 2 0)) (topmost (closing_rows room))) (lt-leb 96 v.posted before))

-- The lines of the tables are those of the declaration.
pub declared_lines :
    (c : Cleared) → RisingRows (segments_of c)
    → lines_to (length (segments_of c)) (row_text (segments_of c))
    ++ (lines_to 256 (λ (p : ℕ). award_text p (get_or c.awards p 0)) ++ lines_to 16 (λ (g : ℕ). share_text g (get_or c.got g 0)))
    ≡ declaration_lines (declaration_of c)
declared_lines c rows = λ i. by_bid i ++ (lines_to 256 (award_line (declaration_of c)) ++ by_grid_shares i)
  where
    by_bid : lines_to (length (segments_of c)) (row_text (segments_of c)) ≡ lines_to 200001 (segment_line (declaration_of c))
    by_bid = sym (lines_over_rows 200001 (segments_of c) rows.rising (λ k l. let small = rows.small k l in omega arith))

    by_grid_shares : lines_to 16 (λ (g : ℕ). share_text g (get_or c.got g 0)) ≡ lines_to 16 (share_line (declaration_of c))
    by_grid_shares = lines_same 16 (λ (g : ℕ). share_text g (get_or c.got g 0)) (share_line (declaration_of c)) (λ g l. ap (share_text g) (sym (cond-true (ltb g 16) (get_or c.got g 0) 0 (lt-ltb g 16 l))))

-- With the line of the point they are the listing.
pub point_lines :
    (v : View) (c : Cleared) (posted entered : ℕ) → posted ≡ v.posted → entered ≡ v.entered → cleared (declaration_of c) ≡ v.stage → RisingRows (segments_of c)
    → point_line posted entered ++ (lines_to (length (segments_of c)) (row_text (segments_of c))
    ++ (lines_to 256 (λ (p : ℕ). award_text p (get_or c.awards p 0)) ++ lines_to 16 (λ (g : ℕ). share_text g (get_or c.got g 0))))
    ≡ point_listing v
point_lines v c posted entered posted-is entered-is stage rows =
    (λ i. point_line (posted-is i) (entered-is i) ++ declared_lines c rows i) ∙ ap (λ (s : Stage). point_line v.posted v.entered ++ stage_lines s) stage

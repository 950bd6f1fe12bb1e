-- All that is printed for an input: what its strip and its sheets bring, and the accounts of the closed day.
use Rattle.std.specs.Prelude.{ℕ, zero, suc, cond, List, [], ◌∷◌, ◌++◌, length, drop, replicate, Some, None, Option, ◌==◌, nat_lt, slice_index_or}
use Rattle.lawful.specs.Awards.{AwardSet}
use Rattle.market.specs.Maxima.{grid_count, unit_count, max_limit, point_count}
use Rattle.market.specs.declared.refusals.Refusal.{Refusal}
use Rattle.screen.specs.Meaning.{Settings}
use Rattle.outcome.specs.Outcome.{outcome}
use Rattle.book.specs.Views.{cleared, declared, empty_day, entries_in}
use Rattle.book.specs.Histories.{with_stage, after_post}
use Rattle.grids.specs.ByGrid.{by_grid}
use Rattle.lines.specs.Lines.{line_of}
use Rattle.listings.specs.Listings.{point_listing, closing_listing}
use Rattle.loads.specs.Loads.{Desk, Outcome, loaded, stripped}
use Rattle.sheet.specs.Layout.{header_of, header_bytes, strip_bytes}

-- E: number and layer of a refusal, and the position that it adds
abbrev pub fault_line : Refusal × ℕ → List ℕ
fault_line e = line_of 69 (e.0.number ∷ e.0.layer ∷ e.1 ∷ [])

-- a desk at the start of its day: nothing entered, every limit 6,000,000, every unit on grid 0
unfoldable pub new_desk : Desk
new_desk = (empty_day, replicate grid_count max_limit ∷ replicate unit_count 0 ∷ [])

-- the awards that a grid screen permits, by its limits and its hangings
abbrev pub permitted : Settings → AwardSet
permitted tables = by_grid (slice_index_or tables 0 []) (slice_index_or tables 1 [])

-- the desk with its point cleared through its screen
unfoldable pub cleared_desk : Desk → Desk
cleared_desk d = (with_stage (cleared (declared (outcome (permitted d.1) (entries_in d.0)))) d.0, d.1)

-- the desk with its cleared point posted
unfoldable pub posted_desk : Desk → Desk
posted_desk d = (after_post d.0 d.0.stage, d.1)

-- what comes of a strip, and of loading a sheet over a grid screen
unfoldable pub strip_outcome : List ℕ → Desk → Outcome
strip_outcome s d = (((stripped s d.0).0, d.1), (stripped s d.0).1)

unfoldable pub sheet_outcome : List ℕ → Desk → Outcome
sheet_outcome s d = loaded 0 grid_count s d

-- the line of the refusal that ended a step, else the text of the step
abbrev pub printed : Option (Refusal × ℕ) → List ℕ → List ℕ
printed None text = text
printed (Some e) text = fault_line e

-- how many bytes a step read, with which the day goes on: absent where a refusal ended it
abbrev pub read_of : Option (Refusal × ℕ) → ℕ → Option ℕ
read_of None n = Some n
read_of (Some e) n = None

-- what a strip prints
abbrev pub strip_text : Outcome → List ℕ
strip_text o = printed o.1 []

-- what a sheet prints: the listing of its cleared point
abbrev pub sheet_text : Outcome → List ℕ
sheet_text o = printed o.1 (point_listing (cleared_desk o.0).0)

-- the desk behind a sheet: its point is cleared and posted where no refusal ended the load
abbrev pub settled_desk : Option (Refusal × ℕ) → Desk → Desk
settled_desk None d = posted_desk (cleared_desk d)
settled_desk (Some e) d = d

abbrev pub sheet_desk : Outcome → Desk
sheet_desk o = settled_desk o.1 o.0

-- the accounts of the day, closed as it stands
abbrev pub closing_text : Desk → List ℕ
closing_text d = closing_listing d.0.money

-- one text behind a step that a refusal ended, another where the day goes on
abbrev pub then_text : Option (Refusal × ℕ) → List ℕ → List ℕ → List ℕ
then_text None more ended = more
then_text (Some e) more ended = ended

-- All that is printed from a desk on by the bytes that are left: at most n sheets, one behind the other, then the accounts.
-- No byte left is the normal end.
unfoldable pub sheets_text : ℕ → Desk → List ℕ → List ℕ
sheets_text zero d s = closing_text d
sheets_text (suc n) d s = cond (length s == 0) (closing_text d) (
    sheet_text (sheet_outcome s d)
    ++ then_text (sheet_outcome s d).1 (sheets_text n (sheet_desk (sheet_outcome s d)) (drop (header_of s).length s)) (closing_text (sheet_desk (sheet_outcome s d)))
    )

-- All that is printed from a desk on by a strip and the sheets behind it. Behind 96 posted points one sheet more is declined.
unfoldable pub input_text : Desk → List ℕ → List ℕ
input_text d s =
    strip_text (strip_outcome s d)
    ++ then_text (strip_outcome s d).1 (sheets_text (suc point_count) (strip_outcome s d).0 (drop strip_bytes s)) (closing_text (strip_outcome s d).0)

-- All that is printed for an input.
abbrev pub day_text : List ℕ → List ℕ
day_text s = input_text new_desk s

-- how many bytes the sheet at the start of the bytes needs: ten until its header is there, then its stated length
abbrev pub needed_bytes : List ℕ → ℕ
needed_bytes s = cond (nat_lt (length s) header_bytes) header_bytes (header_of s).length

-- The listing of a cleared point, and that of a closed day: lines of a letter and decimal numbers.
use Rattle.std.specs.Prelude.{ℕ, zero, suc, ◌+◌, ◌/◌, ◌%◌, cond, not, List, [], ◌∷◌, ◌++◌, Ok, Err, Result, nat_le, nat_lt}
use Rattle.lines.specs.Lines.{line_of, written}
use Rattle.market.specs.Maxima.{unit_count, grid_count, place_count, bands_of_unit, point_count, max_price, listing_room}
use Rattle.market.specs.Refusals.{refusal_of}
use Rattle.market.specs.Rows.{Row, row}
use Rattle.market.specs.declared.refusals.MarketRefusal.{MarketRefusal}
use Rattle.book.specs.Tables.{is_cleared}
use Rattle.book.specs.Views.{View, Stage, entering, cleared, Declaration, Money}

-- the texts of the numbers below n, one behind the other
unfoldable pub lines_to : ℕ → (ℕ → List ℕ) → List ℕ
lines_to zero f = []
lines_to (suc n) f = lines_to n f ++ f n

-- a line that is written only where a quantity is above 0
abbrev pub line_above : ℕ → List ℕ → List ℕ
line_above quantity line = cond (nat_lt 0 quantity) line []

-- P: the day's point and its entry count
abbrev pub point_line : ℕ → ℕ → List ℕ
point_line posted entered = line_of 80 ((posted + 1) ∷ entered ∷ [])

-- S: bid, quantity and price of a segment
abbrev pub segment_text : ℕ → ℕ → ℕ → List ℕ
segment_text bid quantity price = line_above quantity (line_of 83 (bid ∷ quantity ∷ price ∷ []))

-- A: unit, band and award of a place
abbrev pub award_text : ℕ → ℕ → List ℕ
award_text place award = line_above award (line_of 65 (place / bands_of_unit ∷ place % bands_of_unit ∷ award ∷ []))

-- B: a grid and all that it got
abbrev pub share_text : ℕ → ℕ → List ℕ
share_text grid share = line_above share (line_of 66 (grid ∷ share ∷ []))

-- C, U or W: a grid or unit, and its money in whole fen and the fortieths left over
abbrev pub money_text : ℕ → ℕ → ℕ → List ℕ
money_text letter who fortieths = line_above fortieths (line_of letter (who ∷ fortieths / 40 ∷ fortieths % 40 ∷ []))

-- R: the money of the branch
abbrev pub branch_line : ℕ → List ℕ
branch_line fortieths = line_of 82 (fortieths / 40 ∷ fortieths % 40 ∷ [])

abbrev pub segment_line : Declaration → ℕ → List ℕ
segment_line d b = segment_text b (d.quantity b) (d.price b)

abbrev pub award_line : Declaration → ℕ → List ℕ
award_line d p = award_text p (d.award p)

abbrev pub share_line : Declaration → ℕ → List ℕ
share_line d g = share_text g (d.got g)

abbrev pub charge_line : Money → ℕ → List ℕ
charge_line m g = money_text 67 g (m.charge g)

abbrev pub unit_line : Money → ℕ → List ℕ
unit_line m u = money_text 85 u (m.unit u)

abbrev pub wires_line : Money → ℕ → List ℕ
wires_line m g = money_text 87 g (m.wires g)

-- what is listed of a declaration: segments by rising bid, awards by place, shares by grid
abbrev pub declaration_lines : Declaration → List ℕ
declaration_lines d = lines_to (suc max_price) (segment_line d) ++ (lines_to place_count (award_line d) ++ lines_to grid_count (share_line d))

abbrev pub stage_lines : Stage → List ℕ
stage_lines entering = []
stage_lines (cleared d) = declaration_lines d

-- the listing of a point
abbrev pub point_listing : View → List ℕ
point_listing v = point_line v.posted v.entered ++ stage_lines v.stage

-- the listing of a closed day: buyers, units, wires, and the branch
abbrev pub closing_listing : Money → List ℕ
closing_listing m = lines_to grid_count (charge_line m) ++ (lines_to unit_count (unit_line m) ++ (lines_to grid_count (wires_line m) ++ branch_line m.branch))

-- a buffer too short for a listing
abbrev pub room_row : ℕ → Row
room_row room = row (nat_lt room listing_room) (refusal_of 13 2 0)

-- why a point is not listed
abbrev pub listing_rows : View → ℕ → List Row
listing_rows v room = row (nat_le point_count v.posted) (refusal_of 1 2 0) ∷ row (not (is_cleared v.stage)) (refusal_of 3 2 0) ∷ room_row room ∷ []

-- why a closed day is not listed
abbrev pub closing_rows : ℕ → List Row
closing_rows room = room_row room ∷ []

-- the buffer after a listing: the bytes from its start on, what lies behind them as it was; declined, the buffer as it was
abbrev pub filled : Result ℕ MarketRefusal → List ℕ → List ℕ → List ℕ
filled (Ok n) buffer bytes = written buffer 0 bytes
filled (Err e) buffer bytes = buffer

-- What the bytes of a sheet and of a strip say. All numbers are little-endian.
use Rattle.std.specs.Prelude.{ℕ, zero, suc, ◌+◌, ◌*◌, Bool, not, ◌||◌, List, [], ◌∷◌, ◌++◌, length, drop, Some, None, Ok, Err, Option, Result, ◌==◌, nat_lt, slice_index}
use Rattle.market.specs.Maxima.{unit_count, grid_count}
use Rattle.market.specs.Refusals.{sheet_refusal}
use Rattle.market.specs.Rows.{Row, row}
use Rattle.market.specs.declared.entries.RawOffer.{RawOffer}
use Rattle.market.specs.declared.refusals.Refusal.{Refusal}
use Rattle.market.specs.declared.refusals.SheetRefusal.{SheetRefusal}
use Rattle.market.specs.declared.refusals.SheetRefusal.TheVariants.{TooShort, BadLayout, OtherPoint}
use Rattle.sheet.specs.declared.header.Header.{Header}
use Rattle.sheet.specs.declared.records.BidRecord.{BidRecord}
use Rattle.sheet.specs.declared.records.LimitRecord.{LimitRecord}

-- the number of 16 bits at an offset
abbrev pub word16 : List ℕ → ℕ → ℕ
word16 s k = slice_index s k + slice_index s (k + 1) * 256

-- the number of 32 bits at an offset
abbrev pub word32 : List ℕ → ℕ → ℕ
word32 s k = slice_index s k + slice_index s (k + 1) * 256 + slice_index s (k + 2) * 65536 + slice_index s (k + 3) * 16777216

-- the bytes of a header, of a unit record, of a bid record, of a limit record, and of a strip
abbrev pub header_bytes : ℕ
header_bytes = 10

abbrev pub unit_bytes : ℕ
unit_bytes = 19

abbrev pub bid_bytes : ℕ
bid_bytes = 9

abbrev pub limit_bytes : ℕ
limit_bytes = 5

abbrev pub strip_bytes : ℕ
strip_bytes = 34

-- the header at the start of the bytes
abbrev pub header_of : List ℕ → Header
header_of s = record { length = word16 s 0; units = word16 s 2; bids = word16 s 4; limits = word16 s 6; point = word16 s 8 }

-- the unit record at the start of the bytes; the fourth place of a unit has no offer in a sheet
abbrev pub unit_at : List ℕ → RawOffer
unit_at s = record {
  unit = slice_index s 0;
  grid = slice_index s 1;
  class = slice_index s 2;
  nameplate = word16 s 3;
  own_derate = word16 s 5;
  network_derate = word16 s 7;
  kept_reserve = word16 s 9;
  plan = word16 s 11;
  offers = word16 s 13 ∷ word16 s 15 ∷ word16 s 17 ∷ 0 ∷ [];
}

-- the bid record at the start of the bytes: need before price
abbrev pub bid_at : List ℕ → BidRecord
bid_at s = record { grid = slice_index s 0; need = word32 s 1; price = word32 s 5 }

-- the limit record at the start of the bytes
abbrev pub limit_at : List ℕ → LimitRecord
limit_at s = record { grid = slice_index s 0; limit = word32 s 1 }

-- where the bid records begin, where the limit records begin, and where the sheet ends
abbrev pub bids_from : Header → ℕ
bids_from h = header_bytes + unit_bytes * h.units

abbrev pub limits_from : Header → ℕ
limits_from h = bids_from h + bid_bytes * h.bids

abbrev pub sheet_bytes : Header → ℕ
sheet_bytes h = limits_from h + limit_bytes * h.limits

-- the unit record, the bid record and the limit record of a number in a sheet, each counted from 0
abbrev pub unit_of : List ℕ → ℕ → RawOffer
unit_of s k = unit_at (drop (header_bytes + unit_bytes * k) s)

abbrev pub bid_of : List ℕ → ℕ → BidRecord
bid_of s k = bid_at (drop (bids_from (header_of s) + bid_bytes * k) s)

abbrev pub limit_of : List ℕ → ℕ → LimitRecord
limit_of s k = limit_at (drop (limits_from (header_of s) + limit_bytes * k) s)

-- too many records, or a length that is not that of the layout
abbrev pub against_layout : Header → Bool
against_layout h = nat_lt unit_count h.units || nat_lt grid_count h.bids || nat_lt grid_count h.limits || not (h.length == sheet_bytes h)

-- why a sheet is declined by its header
abbrev pub sheet_rows : List ℕ → ℕ → List Row
sheet_rows s point =
    row (nat_lt (length s) header_bytes || nat_lt (length s) (header_of s).length) (sheet_refusal TooShort)
    ∷ row (against_layout (header_of s)) (sheet_refusal BadLayout)
    ∷ row (not ((header_of s).point == point)) (sheet_refusal OtherPoint)
    ∷ []

-- the tariff of a number in a strip, counted from 0
abbrev pub tariff_of : List ℕ → ℕ → ℕ
tariff_of s k = word16 s (2 * k)

-- the first n tariffs of a strip
abbrev pub tariffs_to : ℕ → List ℕ → List ℕ
tariffs_to zero s = []
tariffs_to (suc n) s = tariffs_to n s ++ tariff_of s n ∷ []

-- why a strip is declined
abbrev pub strip_rows : List ℕ → List Row
strip_rows s = row (nat_lt (length s) strip_bytes) (sheet_refusal TooShort) ∷ []

-- what a reading of a sheet or a strip answered
abbrev pub sheet_answer : {X : Type 0} → Result X SheetRefusal → Option Refusal
sheet_answer (Ok x) = None
sheet_answer (Err e) = Some (sheet_refusal e)

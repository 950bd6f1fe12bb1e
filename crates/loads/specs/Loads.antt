-- What a load makes of a day and a screen's settings, record after record.
use Rattle.std.specs.Prelude.{◌≡◌, ℕ, zero, suc, ◌+◌, ◌*◌, List, [], ◌∷◌, ◌++◌, drop, Some, None, Option, nat_le}
use Rattle.market.specs.Maxima.{grid_count, point_count, max_limit}
use Rattle.market.specs.Refusals.{refusal_of}
use Rattle.market.specs.Rows.{Row, row, topmost}
use Rattle.market.specs.declared.entries.RawOffer.{RawOffer}
use Rattle.market.specs.declared.refusals.Refusal.{Refusal}
use Rattle.screen.specs.Meaning.{Settings, with_setting, limit_rows, hang_rows}
use Rattle.book.specs.Calls as call
use Rattle.book.specs.Calls.{Call}
use Rattle.book.specs.Views.{View}
use Rattle.book.specs.Tables.{is_cleared, refusal}
use Rattle.book.specs.Histories.{turn}
use Rattle.sheet.specs.Layout.{header_of, unit_at, bid_at, limit_at, unit_bytes, bid_bytes, limit_bytes, unit_of, bid_of, limit_of, tariff_of, sheet_rows, strip_rows}
use Rattle.sheet.specs.declared.header.Header.{Header}
use Rattle.sheet.specs.declared.records.BidRecord.{BidRecord}
use Rattle.sheet.specs.declared.records.LimitRecord.{LimitRecord}

-- One record of a sheet: a unit's offer, a grid's bid, a grid's limit.
pub data Record : Type 0 where
  unit : RawOffer → Record
  bid : BidRecord → Record
  limit : LimitRecord → Record

-- the next n records, from the number k on
abbrev pub records_on : (ℕ → Record) → ℕ → ℕ → List Record
records_on nth zero k = []
records_on nth (suc n) k = nth k ∷ records_on nth n (suc k)

-- the next n units, bids, limits of a sheet, from the number k on
abbrev pub units_on : ℕ → ℕ → List ℕ → List Record
units_on n k s = records_on (λ j. unit (unit_of s j)) n k

abbrev pub bids_on : ℕ → ℕ → List ℕ → List Record
bids_on n k s = records_on (λ j. bid (bid_of s j)) n k

abbrev pub limits_on : ℕ → ℕ → List ℕ → List Record
limits_on n k s = records_on (λ j. limit (limit_of s j)) n k

-- the records of a sheet in file order: units, then bids, then limits
abbrev pub records_of : List ℕ → List Record
records_of s = units_on (header_of s).units 0 s ++ (bids_on (header_of s).bids 0 s ++ limits_on (header_of s).limits 0 s)

-- What a load works on: what the day shows, and the settings of the screen.
abbrev pub Desk : Type 0
Desk = View × Settings

-- A desk, and the refusal and position that ended the load where one did.
abbrev pub Outcome : Type 0
Outcome = Desk × Option (Refusal × ℕ)

-- the topmost of two tables of refusals
abbrev pub either : Option Refusal → Option Refusal → Option Refusal
either None second = second
either (Some e) second = Some e

-- the settings as they were where a row declines, else as they are set
abbrev pub unless_set : Option Refusal → Settings → Settings → Settings
unless_set None declined accepted = accepted
unless_set (Some e) declined accepted = declined

-- the limit of a node set where there is one and the limit is not too high
abbrev pub limited : ℕ → ℕ → ℕ → ℕ → Settings → Settings
limited layers nodes node most tables = unless_set (topmost (limit_rows nodes node most)) tables (with_setting tables layers node most)

-- why a record is declined: a unit by the market, and accepted by the screen where it has no such grid
abbrev pub declines : ℕ → Record → View → Option Refusal
declines nodes (unit r) v = either (refusal v (call.offer r)) (topmost (hang_rows nodes r.unit r.grid))
declines nodes (bid b) v = refusal v (call.bid b.grid b.price b.need)
declines nodes (limit l) v = topmost (limit_rows nodes l.grid l.limit)

-- what the day shows after a record
abbrev pub day_after : Record → View → View
day_after (unit r) v = turn (call.offer r) v
day_after (bid b) v = turn (call.bid b.grid b.price b.need) v
day_after (limit l) v = v

-- the settings after a record: an accepted unit hangs on its grid, and a limit is set
abbrev pub settings_after : ℕ → ℕ → Record → Desk → Settings
settings_after layers nodes (unit r) d = unless_set (declines nodes (unit r) d.0) d.1 (with_setting d.1 (layers + 1) r.unit r.grid)
settings_after layers nodes (bid b) d = d.1
settings_after layers nodes (limit l) d = limited layers nodes l.grid l.limit d.1

-- a refusal with its position
abbrev pub at_position : ℕ → Option Refusal → Option (Refusal × ℕ)
at_position position None = None
at_position position (Some e) = Some (e, position)

-- what comes of one record
abbrev pub recorded : ℕ → ℕ → ℕ → Record → Desk → Outcome
recorded layers nodes position r d = ((day_after r d.0, settings_after layers nodes r d), at_position position (declines nodes r d.0))

-- on with the desk where nothing was declined
abbrev pub onward : Desk → Option (Refusal × ℕ) → (Desk → Outcome) → Outcome
onward d None next = next d
onward d (Some e) next = (d, Some e)

-- What comes of records from a position on: the first that a row declines ends it, and what came before stays.
abbrev pub load_from : ℕ → ℕ → ℕ → List Record → Desk → Outcome
load_from layers nodes position [] d = (d, None)
load_from layers nodes position (r ∷ rs) d =
    onward (recorded layers nodes position r d).0 (recorded layers nodes position r d).1 (load_from layers nodes (suc position) rs)

-- the limits of the first k nodes at 6,000,000, of those that there are
abbrev pub opened_to : ℕ → ℕ → ℕ → Settings → Settings
opened_to layers nodes zero tables = tables
opened_to layers nodes (suc k) tables = limited layers nodes k max_limit (opened_to layers nodes k tables)

-- rows 1 and 2: why a day takes no sheet
abbrev pub day_rows : View → List Row
day_rows v = row (nat_le point_count v.posted) (refusal_of 1 2 0) ∷ row (is_cleared v.stage) (refusal_of 2 2 0) ∷ []

-- why a sheet is declined before its first record
abbrev pub first_refusal : View → List ℕ → Option Refusal
first_refusal v s = either (topmost (day_rows v)) (topmost (sheet_rows s (v.posted + 1)))

-- as it was where a first row declines, else on with the rest
abbrev pub begun : Option Refusal → Desk → Outcome → Outcome
begun None d rest = rest
begun (Some e) d rest = (d, Some (e, 0))

-- What comes of a load: every limit is opened, then the records come in file order.
abbrev pub loaded : ℕ → ℕ → List ℕ → Desk → Outcome
loaded layers nodes s d = begun (first_refusal d.0 s) d (load_from layers nodes 0 (records_of s) (d.0, opened_to layers nodes grid_count d.1))

-- the turns of calls, the first call first
abbrev pub turns : List Call → View → View
turns [] v = v
turns (c ∷ cs) v = turns cs (turn c v)

-- Calls that lead from one view to another.
abbrev pub Led : View → View → Type 0
Led v x = (cs : List Call) × (x ≡ turns cs v)

-- on with the day where the tariff was not declined
abbrev pub tariff_on : Option Refusal → ℕ → View → (View → View × Option (Refusal × ℕ)) → View × Option (Refusal × ℕ)
tariff_on None g v next = next v
tariff_on (Some e) g v next = (v, Some (e, g))

-- as it was where the strip is too short, else on with the rest
abbrev pub strip_begun : Option Refusal → View → View × Option (Refusal × ℕ) → View × Option (Refusal × ℕ)
strip_begun None v rest = rest
strip_begun (Some e) v rest = (v, Some (e, 0))

-- What comes of the next n tariffs of a strip, from the grid g on: the first that a row declines ends it.
abbrev pub tariffs_from : ℕ → ℕ → List ℕ → View → View × Option (Refusal × ℕ)
tariffs_from zero g s v = (v, None)
tariffs_from (suc n) g s v = tariff_on (refusal v (call.tariff g (tariff_of s g))) g (turn (call.tariff g (tariff_of s g)) v) (tariffs_from n (suc g) s)

-- What comes of a strip.
abbrev pub stripped : List ℕ → View → View × Option (Refusal × ℕ)
stripped s v = strip_begun (topmost (strip_rows s)) v (tariffs_from 17 0 s v)

-- the first n records that stand at the start of bytes, one behind the other, each of so many bytes
abbrev pub records_in : ℕ → (List ℕ → Record) → ℕ → List ℕ → List Record
records_in size first zero s = []
records_in size first (suc n) s = first s ∷ records_in size first n (drop size s)

-- the first n units, bids, limits that stand there
abbrev pub units_in : ℕ → List ℕ → List Record
units_in = records_in unit_bytes (λ s. unit (unit_at s))

abbrev pub bids_in : ℕ → List ℕ → List Record
bids_in = records_in bid_bytes (λ s. bid (bid_at s))

abbrev pub limits_in : ℕ → List ℕ → List Record
limits_in = records_in limit_bytes (λ s. limit (limit_at s))

-- the records that stand in the bytes behind a header: units, then bids, then limits
abbrev pub body_records : Header → List ℕ → List Record
body_records h s = units_in h.units s ++ (bids_in h.bids (drop (unit_bytes * h.units) s) ++ limits_in h.limits (drop (bid_bytes * h.bids) (drop (unit_bytes * h.units) s)))

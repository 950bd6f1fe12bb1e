-- What a step of the desk leaves, writes and answers.
use Rattle.std.specs.Prelude.{◌≡◌, ℕ, suc, ◌+◌, ◌<◌, ◌≤◌, true, false, ◌⊎◌, List, ◌++◌, length, IfSome, Option}
use Rattle.market.specs.Maxima.{point_count, listing_room}
use Rattle.market.specs.declared.refusals.Refusal.{Refusal}
use Rattle.book.specs.Calls.{Call}
use Rattle.book.specs.Histories.{history}
use Rattle.book.specs.Tables.{is_cleared}
use Rattle.book.specs.Views.{View}
use Rattle.day.specs.Day.{shown, ClosesWell}
use Rattle.grids.specs.GridSets.{settings_of}
use Rattle.lines.specs.Lines.{written}
use Rattle.listings.specs.Listings.{closing_listing}
use Rattle.loads.specs.Loads as loads
use Rattle.sheet.specs.Layout.{header_of, strip_bytes}
use Rattle.desk.specs.Texts.{read_of, strip_text, sheet_text, sheet_desk, strip_outcome, sheet_outcome, sheets_text, needed_bytes}
use Rattle.desk.specs.declared.Desk.{Desk}
use Rattle.desk.specs.declared.Step.{Step}

-- what a desk shows: its day, and the settings of its screen
abbrev pub desk_of : Desk → loads.Desk
desk_of x = (shown x.day, settings_of x.screen)

-- a point that takes entries
abbrev pub Entering : View → Type 0
Entering v = (v.posted < point_count) × (is_cleared v.stage ≡ false)

-- a point that can be listed and posted
abbrev pub Listed : View → Type 0
Listed v = (v.posted < point_count) × (is_cleared v.stage ≡ true)

-- A step of a desk on a window, with a buffer: the desk after it, the text from the start of the buffer on, how long it is,
-- and how many bytes of the window were read where the day goes on.
pub record Worked (text : List ℕ) (after : loads.Desk) (ended : Option (Refusal × ℕ)) (reads : ℕ) (window buffer : List ℕ) (desk : Desk) (out : List ℕ) (step : Step) : Type 0 where
  pub shows : desk_of desk ≡ after
  pub bytes : out ≡ written buffer 0 text
  pub wrote : step.wrote ≡ length text
  pub few : step.wrote ≤ listing_room
  pub read : step.read ≡ read_of ended reads
  pub within : IfSome step.read (λ n. n ≤ length window)

abbrev pub StripWorked : List ℕ → loads.Desk → List ℕ → Desk → List ℕ → Step → Type 0
StripWorked s d buffer = Worked (strip_text (strip_outcome s d)) (strip_outcome s d).0 (strip_outcome s d).1 strip_bytes s buffer

abbrev pub SheetWorked : List ℕ → loads.Desk → List ℕ → Desk → List ℕ → Step → Type 0
SheetWorked s d buffer = Worked (sheet_text (sheet_outcome s d)) (sheet_desk (sheet_outcome s d)) (sheet_outcome s d).1 (header_of s).length s buffer

-- A window that has the bytes that its first sheet needs decides that sheet, whatever comes behind it.
abbrev pub WindowDecides : List ℕ → Type 0
WindowDecides s = (rest : List ℕ) (d : loads.Desk) → needed_bytes s ≤ length s → (sheet_outcome (s ++ rest) d ≡ sheet_outcome s d) × ((header_of (s ++ rest)).length ≡ (header_of s).length)

-- A window that decides the next sheet of a desk: it has the bytes that the sheet needs, or 96 points are posted.
abbrev pub Decided : List ℕ → loads.Desk → Type 0
Decided s d = (needed_bytes s ≤ length s) ⊎ (point_count ≤ d.0.posted)

-- A strip's bytes decide it, whatever comes behind them.
abbrev pub StripDecides : List ℕ → Type 0
StripDecides s = (rest : List ℕ) (d : loads.Desk) → strip_bytes ≤ length s → strip_outcome (s ++ rest) d ≡ strip_outcome s d

-- More sheets than one for each point and one behind them bring nothing more.
abbrev pub SheetsEnough : Type 0
SheetsEnough = (more : ℕ) (d : loads.Desk) (s : List ℕ) → d.0.posted ≤ point_count → sheets_text (suc point_count + more) d s ≡ sheets_text (suc point_count) d s

-- A day that shows v closes well, whatever list of calls led to it.
abbrev pub Closes : View → Type 0
Closes v = (h : List Call) → v ≡ history h → ClosesWell h v.money

-- A text that ends with the accounts of a day that some list of calls led to: it closes well, with the promise kept at every moment.
abbrev pub EndsWell : List ℕ → Type 0
EndsWell text = ∥ ((h : List Call) × (before : List ℕ) × (text ≡ before ++ closing_listing (history h).money) × ClosesWell h (history h).money) ∥₁

-- What a sheet brought, without its text.
pub record Added (s : List ℕ) (before after : loads.Desk) (step : Step) : Type 0 where
  pub shows : after ≡ sheet_desk (sheet_outcome s before)
  pub read : step.read ≡ read_of (sheet_outcome s before).1 (header_of s).length
  pub within : IfSome step.read (λ n. n ≤ length s)

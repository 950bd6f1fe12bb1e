-- A sheet that is accepted: its header was taken, and its point still takes entries.
use Rattle.std.proofs.Common.{◌≡◌, ℕ, suc, ◌+◌, ◌≤◌, false, cond, not, ◌||◌, eqb, ltb, leb, List, [], ◌∷◌, length, Some, None, Option, sym, refl, ap, ◌∙◌, arith}
use Rattle.std.proofs.lemmas.Bool.{leb-false, ltb-false, or_parts}
use Rattle.market.specs.Maxima.{grid_count}
use Rattle.market.specs.Refusals.{refusal_of, sheet_refusal}
use Rattle.market.specs.Rows.{Row, row, topmost}
use Rattle.market.specs.declared.refusals.Refusal.{Refusal}
use Rattle.market.specs.declared.refusals.SheetRefusal.TheVariants.{TooShort, BadLayout, OtherPoint}
use Rattle.book.specs.Calls as call
use Rattle.book.specs.Views.{View}
use Rattle.book.specs.Tables.{is_cleared, refusal}
use Rattle.book.specs.Histories.{unless, acted}
use Rattle.sheet.specs.Layout.{header_of, header_bytes, against_layout, sheet_rows}
use Rattle.loads.specs.Loads.{Record, unit, bid, limit, Desk, Outcome, day_after, recorded, records_of, onward, load_from, opened_to, either, begun, day_rows, first_refusal}
use Rattle.loads.proofs.Whole.{begins}
use Rattle.desk.specs.Texts.{sheet_outcome}
use Rattle.desk.specs.Steps.{Entering}
use Rattle.desk.proofs.Rows.{some_none, first_false}

-- A load without a refusal began.
pub begun_none : (o : Option Refusal) (d : Desk) (rest : Outcome) → (begun o d rest).1 ≡ None → o ≡ None
begun_none None d rest is = refl
begun_none (Some e) d rest is = absurd (some_none (e, 0) is)

either_none : (a b : Option Refusal) → either a b ≡ None → (a ≡ None) × (b ≡ None)
either_none None b is = (refl, is)
either_none (Some e) b is = absurd (some_none e is)

-- The day took the sheet.
pub first_entering : (v : View) (s : List ℕ) → first_refusal v s ≡ None → Entering v
first_entering v s none =
    let day = (either_none (topmost (day_rows v)) (topmost (sheet_rows s (v.posted + 1))) none).0 in
    let full = first_false (leb 96 v.posted) (refusal_of 1 2 0) (cond (is_cleared v.stage) (Some (refusal_of 2 2 0)) None) day in
    let cleared = first_false (is_cleared v.stage) (refusal_of 2 2 0) None full.1 in
    (leb-false 96 v.posted full.0, cleared.0)

-- The bytes of the sheet are there.
pub record Laid (s : List ℕ) : Type 0 where
  pub header : header_bytes ≤ length s
  pub whole : (header_of s).length ≤ length s
  pub layout : against_layout (header_of s) ≡ false

abbrev layout_rows : List ℕ → ℕ → List Row
layout_rows s point = row (against_layout (header_of s)) (sheet_refusal BadLayout) ∷ row (not (eqb (header_of s).point point)) (sheet_refusal OtherPoint) ∷ []

pub first_laid : (v : View) (s : List ℕ) → first_refusal v s ≡ None → Laid s
first_laid v s none =
    let point = v.posted + 1 in
    let rows = (either_none (topmost (day_rows v)) (topmost (sheet_rows s point)) none).1 in
    let short = first_false (ltb (length s) header_bytes || ltb (length s) (header_of s).length) (sheet_refusal TooShort) (topmost (layout_rows s point)) rows in
    let enough = or_parts (ltb (length s) header_bytes) (ltb (length s) (header_of s).length) short.0 in
    let laid = first_false (against_layout (header_of s)) (sheet_refusal BadLayout) (cond (not (eqb (header_of s).point point)) (Some (sheet_refusal OtherPoint)) None) short.1 in
    record { header = ltb-false (length s) header_bytes enough.0; whole = ltb-false (length s) (header_of s).length enough.1; layout = laid.0 }

-- What a load keeps of the day: the points posted and the stage of the point.
pub record Keeps (v w : View) : Type 0 where
  pub posted : w.posted ≡ v.posted
  pub stage : w.stage ≡ v.stage

keeps_unless : (o : Option Refusal) (v w : View) → Keeps v w → Keeps v (unless o v w)
keeps_unless None v w kept = kept
keeps_unless (Some e) v w kept = record { posted = refl; stage = refl }

keeps_record : (r : Record) (v : View) → Keeps v (day_after r v)
keeps_record (unit r) v = keeps_unless (refusal v (call.offer r)) v (acted (call.offer r) v) (record { posted = refl; stage = refl })
keeps_record (bid b) v =
    keeps_unless (refusal v (call.bid b.grid b.price b.need)) v (acted (call.bid b.grid b.price b.need) v) (record { posted = refl; stage = refl })
keeps_record (limit l) v = record { posted = refl; stage = refl }

keeps_onward : (v : View) (d : Desk) (o : Option (Refusal × ℕ)) (f : Desk → Outcome) → Keeps v d.0 → ((x : Desk) → Keeps x.0 (f x).0.0) → Keeps v (onward d o f).0.0
keeps_onward v d None f one more = record { posted = (more d).posted ∙ one.posted; stage = (more d).stage ∙ one.stage }
keeps_onward v d (Some e) f one more = one

pub keeps_load : (L N p : ℕ) (rs : List Record) (d : Desk) → Keeps d.0 (load_from L N p rs d).0.0
keeps_load L N p [] d = record { posted = refl; stage = refl }
keeps_load L N p (r ∷ rs) d =
    keeps_onward d.0 (recorded L N p r d).0 (recorded L N p r d).1 (load_from L N (suc p) rs) (keeps_record r d.0) (λ (x : Desk). keeps_load L N (suc p) rs x)

-- No first row declined an accepted sheet.
pub accepted_first : (s : List ℕ) (d x : Desk) → sheet_outcome s d ≡ (x, None) → first_refusal d.0 s ≡ None
unfolding sheet_outcome
accepted_first s d x is =
    begun_none (first_refusal d.0 s) d (load_from 0 grid_count 0 (records_of s) (d.0, opened_to 0 grid_count grid_count d.1)) (ap (λ (o : Outcome). o.1) is)

pub accepted_laid : (s : List ℕ) (d x : Desk) → sheet_outcome s d ≡ (x, None) → Laid s
accepted_laid s d x is = first_laid d.0 s (accepted_first s d x is)

-- Its point still takes entries.
pub accepted_entering : (s : List ℕ) (d x : Desk) → sheet_outcome s d ≡ (x, None) → Entering x.0
unfolding sheet_outcome
accepted_entering s d x is =
    let none = accepted_first s d x is in
    let before = first_entering d.0 s none in
    let start : Desk = (d.0, opened_to 0 grid_count grid_count d.1) in
    let same : load_from 0 grid_count 0 (records_of s) start ≡ (x, None) = sym (begins 0 grid_count s d none) ∙ is in
    let kept = keeps_load 0 grid_count 0 (records_of s) start in
    let posted : x.0.posted ≡ d.0.posted = sym (ap (λ (o : Outcome). o.0.0.posted) same) ∙ kept.posted in
    let stage : x.0.stage ≡ d.0.stage = sym (ap (λ (o : Outcome). o.0.0.stage) same) ∙ kept.stage in
    (omega (arith, posted, before.0), ap is_cleared stage ∙ before.1)

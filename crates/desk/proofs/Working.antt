-- What a step leaves, by what came of it.
use Rattle.std.proofs.Common.{◌≡◌, ℕ, ◌+◌, ◌≤◌, ltb, List, ◌++◌, length, take, drop, IfSome, Some, None, Option, sym, refl, ap, ◌∙◌, subst, append_assoc, arith}
use Rattle.std.proofs.lemmas.Bool.{cond-false, le-ltb, ltb-false}
use Rattle.std.proofs.lemmas.List.{drop-append-le, length-take-le, take-append-drop}
use Rattle.market.specs.Maxima.{grid_count, listing_room}
use Rattle.market.specs.Refusals.{refusal_of, sheet_refusal}
use Rattle.market.specs.Rows.{topmost}
use Rattle.market.specs.declared.refusals.Refusal.{Refusal}
use Rattle.market.specs.declared.refusals.SheetRefusal.TheVariants.{TooShort}
use Rattle.screen.specs.Meaning.{Settings}
use Rattle.book.specs.Views.{View}
use Rattle.lines.specs.Lines.{written}
use Rattle.lines.proofs.Written.{written_none}
use Rattle.listings.specs.Listings.{closing_rows, point_listing}
use Rattle.sheet.specs.Layout.{header_of, strip_bytes, strip_rows}
use Rattle.loads.specs.Loads as loads
use Rattle.loads.specs.Loads.{Outcome, loaded, stripped, strip_begun, tariffs_from}
use Rattle.desk.specs.Texts.{fault_line, strip_text, sheet_text, sheet_desk, strip_outcome, sheet_outcome, cleared_desk, posted_desk}
use Rattle.desk.specs.Steps.{desk_of, Worked, StripWorked, SheetWorked}
use Rattle.desk.specs.declared.Desk.{Desk}
use Rattle.desk.specs.declared.Step.{Step}
use Rattle.desk.proofs.Rows.{some_none, first_false}

-- What a load or a strip tells is what comes of it.
pub load_tells : (s : List ℕ) (d : loads.Desk) (o : Outcome) → loaded 0 grid_count s d ≡ o → sheet_outcome s d ≡ o
unfolding sheet_outcome
load_tells s d o is = is

pub strip_tells : (s : List ℕ) (v x : View) (t : Settings) (e : Option (Refusal × ℕ)) → stripped s v ≡ (x, e) → strip_outcome s (v, t) ≡ ((x, t), e)
unfolding strip_outcome
strip_tells s v x t e is = ap {B = Outcome} (λ (o : View × Option (Refusal × ℕ)). ((o.0, t), o.1)) is

-- An accepted strip has its bytes.
strip_begun_lem : (o : Option Refusal) (v : View) (rest : View × Option (Refusal × ℕ)) → (strip_begun o v rest).1 ≡ None → o ≡ None
strip_begun_lem None v rest is = refl
strip_begun_lem (Some e) v rest is = absurd (some_none (e, 0) is)

pub strip_long : (s : List ℕ) (v x : View) → stripped s v ≡ (x, None) → strip_bytes ≤ length s
strip_long s v x is =
    let none = strip_begun_lem (topmost (strip_rows s)) v (tariffs_from 17 0 s v) (ap (λ (o : View × Option (Refusal × ℕ)). o.1) is) in
    ltb-false (length s) strip_bytes (first_false (ltb (length s) strip_bytes) (sheet_refusal TooShort) None none).0

module _ (s : List ℕ) (d x : loads.Desk) (buffer out : List ℕ) (desk : Desk) (step : Step) where
  -- What was read is within the bytes where it is so for the number that was read.
  read_within : {o : Option ℕ} → o ≡ step.read → IfSome o (λ n. n ≤ length s) → IfSome step.read (λ n. n ≤ length s)
  read_within is within = subst (λ (r : Option ℕ). IfSome r (λ n. n ≤ length s)) is within

  -- A sheet that was accepted.
  pub sheet_accepted :
      sheet_outcome s d ≡ (x, None) → desk_of desk ≡ posted_desk (cleared_desk x) → out ≡ written buffer 0 (point_listing (cleared_desk x).0)
      → step.wrote ≡ length (point_listing (cleared_desk x).0) → step.wrote ≤ listing_room → step.read ≡ Some (header_of s).length → (header_of s).length ≤ length s
      → SheetWorked s d buffer desk out step
  sheet_accepted is shows bytes wrote few read long =
      subst (λ (o : Outcome). Worked (sheet_text o) (sheet_desk o) o.1 (header_of s).length s buffer desk out step) (sym is)
      (record { shows = shows; bytes = bytes; wrote = wrote; few = few; read = read; within = read_within (sym read) long })

  -- A sheet that a refusal ended.
  pub sheet_declined :
      (e : Refusal × ℕ) → sheet_outcome s d ≡ (x, Some e) → desk_of desk ≡ x → out ≡ written buffer 0 (fault_line e)
      → step.wrote ≡ length (fault_line e) → step.wrote ≤ listing_room → step.read ≡ None
      → SheetWorked s d buffer desk out step
  sheet_declined e is shows bytes wrote few read =
      subst (λ (o : Outcome). Worked (sheet_text o) (sheet_desk o) o.1 (header_of s).length s buffer desk out step) (sym is)
      (record { shows = shows; bytes = bytes; wrote = wrote; few = few; read = read; within = read_within (sym read) tt })

  -- A strip that was accepted prints nothing.
  pub strip_accepted :
      strip_outcome s d ≡ (x, None) → desk_of desk ≡ x → out ≡ buffer → step.wrote ≡ 0 → step.read ≡ Some strip_bytes → strip_bytes ≤ length s
      → StripWorked s d buffer desk out step
  strip_accepted is shows bytes wrote read long =
      subst (λ (o : Outcome). Worked (strip_text o) o.0 o.1 strip_bytes s buffer desk out step) (sym is)
      (record { shows = shows; bytes = bytes ∙ sym (written_none buffer 0); wrote = wrote; few = omega (arith, wrote); read = read; within = read_within (sym read) long })

  -- A strip that a refusal ended.
  pub strip_declined :
      (e : Refusal × ℕ) → strip_outcome s d ≡ (x, Some e) → desk_of desk ≡ x → out ≡ written buffer 0 (fault_line e)
      → step.wrote ≡ length (fault_line e) → step.wrote ≤ listing_room → step.read ≡ None
      → StripWorked s d buffer desk out step
  strip_declined e is shows bytes wrote few read =
      subst (λ (o : Outcome). Worked (strip_text o) o.0 o.1 strip_bytes s buffer desk out step) (sym is)
      (record { shows = shows; bytes = bytes; wrote = wrote; few = few; read = read; within = read_within (sym read) tt })

-- Bytes written into the start of a buffer are written into the whole.
front_of_buffer : (b : List ℕ) (k : ℕ) (text : List ℕ) → length text ≤ k → k ≤ length b → written (take k b) 0 text ++ drop k b ≡ written b 0 text
unfolding written
front_of_buffer b k text fit room =
    let n = 0 + length text in
    append_assoc text (drop n (take k b)) (drop k b)
    ∙ ap (λ xs. text ++ xs) (sym (drop-append-le n (take k b) (drop k b) (omega (arith, fit, length-take-le k b room))) ∙ ap (drop n) (take-append-drop k b))

-- So is a step whose buffer is the start of a longer one a step with the whole.
pub worked_front :
    (text : List ℕ) (after : loads.Desk) (ended : Option (Refusal × ℕ)) (reads : ℕ) (window buffer front out : List ℕ) (desk : Desk) (step : Step)
    → Worked text after ended reads window front desk out step → front ≡ take 8192 buffer → 8192 ≤ length buffer
    → Worked text after ended reads window buffer desk (out ++ drop 8192 buffer) step
worked_front text after ended reads window buffer front out desk step worked same room = record {
  shows = worked.shows;
  bytes = ap (λ b. b ++ drop 8192 buffer) (worked.bytes ∙ ap (λ b. written b 0 text) same) ∙ front_of_buffer buffer 8192 text (omega (arith, worked.wrote, worked.few)) room;
  wrote = worked.wrote;
  few = worked.few;
  read = worked.read;
  within = worked.within;
}

-- Where the buffer is long enough, no row is given for it.
pub room_answer : (room : ℕ) → 8192 ≤ room → None ≡ topmost (closing_rows room)
room_answer room enough = sym (cond-false (ltb room 8192) (Some (refusal_of 13 2 0)) None (le-ltb room 8192 enough))

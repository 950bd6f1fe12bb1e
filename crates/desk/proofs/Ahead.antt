-- A step on a window that decides is a step on the whole of what is left.
use Rattle.std.proofs.Common.{◌≡◌, ℕ, ◌+◌, ◌≤◌, cond, leb, List, ◌++◌, length, IfSome, Some, None, Option, sym, ap, ◌∙◌, inl, inr, arith}
use Rattle.std.proofs.lemmas.List.{length-append}
use Rattle.std.proofs.lemmas.Bool.{cond-true, le-leb}
use Rattle.market.specs.Maxima.{grid_count, point_count}
use Rattle.market.specs.Refusals.{refusal_of}
use Rattle.market.specs.Rows.{topmost}
use Rattle.market.specs.declared.refusals.Refusal.{Refusal}
use Rattle.book.specs.Tables.{is_cleared}
use Rattle.lines.specs.Lines.{written}
use Rattle.sheet.specs.Layout.{header_of, sheet_rows, strip_bytes}
use Rattle.loads.specs.Loads as loads
use Rattle.loads.specs.Loads.{Outcome, begun, either, load_from, opened_to, records_of}
use Rattle.desk.specs.Texts.{read_of, strip_text, sheet_text, sheet_desk, strip_outcome, sheet_outcome}
use Rattle.desk.specs.Steps.{Decided, StripWorked, SheetWorked}
use Rattle.desk.specs.declared.Desk.{Desk}
use Rattle.desk.specs.declared.Step.{Step}
use Rattle.desk.proofs.Windows.{window_decides}
use Rattle.desk.proofs.Strips.{strip_decides}

-- Behind 96 points no sheet is taken.
full_declines : (s : List ℕ) (d : loads.Desk) → point_count ≤ d.0.posted → sheet_outcome s d ≡ (d, Some (refusal_of 1 2 0, 0))
unfolding sheet_outcome
full_declines s d full =
    let rest = load_from 0 grid_count 0 (records_of s) (d.0, opened_to 0 grid_count grid_count d.1) in
    ap (λ (o : Option Refusal). begun (either o (topmost (sheet_rows s (d.0.posted + 1)))) d rest)
    (cond-true (leb point_count d.0.posted) (Some (refusal_of 1 2 0)) (cond (is_cleared d.0.stage) (Some (refusal_of 2 2 0)) None) (le-leb point_count d.0.posted full))

-- What is within bytes is within them and more.
within_more : (o : Option ℕ) (s rest : List ℕ) → IfSome o (λ n. n ≤ length s) → IfSome o (λ n. n ≤ length (s ++ rest))
within_more None s rest within = tt
within_more (Some n) s rest within = omega (arith, within, length-append s rest)

module _ (s rest : List ℕ) (d : loads.Desk) (buffer : List ℕ) (desk : Desk) (out : List ℕ) (step : Step) (worked : SheetWorked s d buffer desk out step) where
  sheet_alike :
      sheet_outcome s d ≡ sheet_outcome (s ++ rest) d → read_of (sheet_outcome s d).1 (header_of s).length ≡ read_of (sheet_outcome (s ++ rest) d).1 (header_of (s ++ rest)).length
      → SheetWorked (s ++ rest) d buffer desk out step
  sheet_alike same reads =
      record {
        shows = worked.shows ∙ ap sheet_desk same;
        bytes = worked.bytes ∙ ap (λ (o : Outcome). written buffer 0 (sheet_text o)) same;
        wrote = worked.wrote ∙ ap (λ (o : Outcome). length (sheet_text o)) same;
        few = worked.few;
        read = worked.read ∙ reads;
        within = within_more step.read s rest worked.within;
      }

  pub sheet_ahead : Decided s d → SheetWorked (s ++ rest) d buffer desk out step
  sheet_ahead (inl enough) =
      let decided = window_decides s rest d enough in
      let same : sheet_outcome s d ≡ sheet_outcome (s ++ rest) d = sym decided.0 in
      let stated : (header_of s).length ≡ (header_of (s ++ rest)).length = sym decided.1 in
      sheet_alike same (λ i. read_of (same i).1 (stated i))
  sheet_ahead (inr full) =
      let here = full_declines s d full in
      let there = full_declines (s ++ rest) d full in
      sheet_alike (here ∙ sym there)
      (ap (λ (o : Outcome). read_of o.1 (header_of s).length) here ∙ sym (ap (λ (o : Outcome). read_of o.1 (header_of (s ++ rest)).length) there))

pub strip_ahead :
    (s rest : List ℕ) (d : loads.Desk) (buffer : List ℕ) (desk : Desk) (out : List ℕ) (step : Step) → strip_bytes ≤ length s → StripWorked s d buffer desk out step
    → StripWorked (s ++ rest) d buffer desk out step
strip_ahead s rest d buffer desk out step enough worked =
    let same : strip_outcome s d ≡ strip_outcome (s ++ rest) d = sym (strip_decides s rest d enough) in
    record {
      shows = worked.shows ∙ ap (λ (o : Outcome). o.0) same;
      bytes = worked.bytes ∙ ap (λ (o : Outcome). written buffer 0 (strip_text o)) same;
      wrote = worked.wrote ∙ ap (λ (o : Outcome). length (strip_text o)) same;
      few = worked.few;
      read = worked.read ∙ ap (λ (o : Outcome). read_of o.1 strip_bytes) same;
      within = within_more step.read s rest worked.within;
    }

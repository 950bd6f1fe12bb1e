-- A day takes no more sheets than it has points, and one behind them that is declined.
use Rattle.std.proofs.Common.{◌≡◌, ℕ, zero, suc, ◌+◌, ◌<◌, ◌≤◌, cond, eqb, List, ◌++◌, length, drop, Some, None, Option, sym, refl, ap, ◌∙◌, arith}
use Rattle.market.specs.Maxima.{grid_count, point_count}
use Rattle.market.specs.declared.refusals.Refusal.{Refusal}
use Rattle.sheet.specs.Layout.{header_of}
use Rattle.loads.specs.Loads.{Desk, Outcome, records_of, load_from, opened_to}
use Rattle.loads.proofs.Whole.{begins}
use Rattle.desk.specs.Texts.{then_text, closing_text, sheet_text, sheet_desk, sheet_outcome, sheets_text, cleared_desk, posted_desk}
use Rattle.desk.specs.Steps.{SheetsEnough}
use Rattle.desk.proofs.Accepted.{accepted_first, first_entering, keeps_load}

-- A cleared and posted desk has one posted point more.
posted_more : (d : Desk) → (posted_desk (cleared_desk d)).0.posted ≡ suc d.0.posted
unfolding posted_desk cleared_desk
posted_more d = refl

-- An accepted sheet leaves one posted point more, and there were fewer than 96.
record Posted (s : List ℕ) (d : Desk) : Type 0 where
  pub before : d.0.posted < point_count
  pub after : (sheet_desk (sheet_outcome s d)).0.posted ≡ suc d.0.posted

accepted_posts : (s : List ℕ) (d : Desk) (o : Outcome) → sheet_outcome s d ≡ o → o.1 ≡ None → Posted s d
unfolding sheet_outcome
accepted_posts s d (x, Some e) is none = absurd (grind (arith, none))
accepted_posts s d (x, None) is none =
    let first = accepted_first s d x is in
    let start : Desk = (d.0, opened_to 0 grid_count grid_count d.1) in
    let same : load_from 0 grid_count 0 (records_of s) start ≡ (x, None) = sym (begins 0 grid_count s d first) ∙ is in
    let kept : x.0.posted ≡ d.0.posted = sym (ap (λ (o : Outcome). o.0.0.posted) same) ∙ (keeps_load 0 grid_count 0 (records_of s) start).posted in
    record {
      before = (first_entering d.0 s first).0;
      after = ap (λ (o : Outcome). (sheet_desk o).0.posted) is ∙ posted_more x ∙ ap suc kept;
    }

-- Texts that go on alike are alike.
then_same : (e : Option (Refusal × ℕ)) (a b ended : List ℕ) → (e ≡ None → a ≡ b) → then_text e a ended ≡ then_text e b ended
then_same None a b ended same = same refl
then_same (Some e) a b ended same = refl

sheets_same : (n m : ℕ) (d : Desk) (s : List ℕ) → d.0.posted ≤ 96 → 97 ≤ d.0.posted + n → sheets_text (n + m) d s ≡ sheets_text n d s
unfolding sheets_text
sheets_same zero m d s few enough = absurd (let no : ⊥ = omega (arith, few, enough) in no)
sheets_same (suc n) m d s few enough =
    let o = sheet_outcome s d in
    let rest = drop (header_of s).length s in
    ap (λ (k : ℕ). sheets_text k d s) {x = suc n + m} {y = suc (n + m)} (omega arith)
    ∙ ap (λ (t : List ℕ). cond (eqb (length s) 0) (closing_text d) (sheet_text o ++ t)) (
    then_same o.1 (sheets_text (n + m) (sheet_desk o) rest) (sheets_text n (sheet_desk o) rest) (closing_text (sheet_desk o)) (λ none.
    let posts = accepted_posts s d (sheet_outcome s d) refl none in
    sheets_same n m (sheet_desk o) rest (omega (arith, posts.before, posts.after)) (omega (arith, posts.after, enough))
    )
    )

pub sheets_enough : SheetsEnough
sheets_enough more d s few = sheets_same 97 more d s few (omega arith)

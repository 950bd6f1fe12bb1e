-- A call leads a day on: from a list of calls that led to it to one with the call before it.
use Rattle.std.proofs.Common.{◌≡◌, ℕ, ◌<◌, Bool, true, false, List, [], ◌∷◌, ◌++◌, Some, None, sym, refl, ap, ◌∙◌, inl, inr}
use mathlib.Core.Logic.{∥∥₁_map}
use Rattle.std.proofs.lemmas.Bool.{both_ways, leb-false, cases_Bool, cond-true, cond-false}
use Rattle.market.specs.Rows.{Row, topmost}
use Rattle.book.specs.Views.{View}
use Rattle.book.specs.Calls.{Call}
use Rattle.market.specs.declared.refusals.Refusal.{Refusal}
use Rattle.book.specs.Tables.{is_cleared, gate_rows, state_rows, figure_rows, book_rows, refusal}
use Rattle.book.specs.Histories.{acted, unless, turn}
use Rattle.book.proofs.Accepted.{no_row, quiet}
use Rattle.book.proofs.Entered.{none_is_not_some}
use Rattle.day.specs.Shown.{stage_of}
use Rattle.day.specs.Followed.{Stored, Followed}
use Rattle.day.specs.declared.state.PointState.{PointState}
use Rattle.day.specs.declared.state.PointState.TheVariants.{Entering, Cleared}

-- A day that shows the turn of a day that calls led to was led to by the call after them.
pub led_on : (v w : View) (s t : PointState) (c : Call) → ∥ Followed v s ∥₁ → w ≡ turn c v → Stored w t → ∥ Followed w t ∥₁
led_on v w s t c followed shows stored = ∥∥₁_map followed (λ x. (c ∷ x.0, shows ∙ ap (turn c) x.1, stored))

-- A point that is being entered stores nothing.
pub entering_stores : (v : View) (s : PointState) → is_cleared (stage_of s) ≡ false → Stored v s
entering_stores v Entering e = tt
entering_stores v (Cleared c) e = absurd (both_ways true e refl)

-- A call that no row declines acts.
pub accepted_turn : (v : View) (c : Call) → refusal v c ≡ None → turn c v ≡ acted c v
accepted_turn v c e = ap (λ o. unless o v (acted c v)) e

-- A call that a row declines leaves the day as it was.
pub declined_turn : (v : View) (c : Call) (r : Refusal) → refusal v c ≡ Some r → turn c v ≡ v
declined_turn v c r e = ap (λ o. unless o v (acted c v)) e

-- A point that takes an entry is being entered.
pub gate_entering : (posted : ℕ) (is_cleared : Bool) (name : ℕ) → None ≡ topmost (gate_rows posted is_cleared true name) → is_cleared ≡ false
gate_entering posted true name e = (quiet (gate_rows posted true true name) (sym e)).1.0
gate_entering posted false name e = refl

-- A day that takes an entry stores nothing of a clearing.
pub entry_stores : (v : View) (posted : ℕ) (s : PointState) (name : ℕ) → None ≡ topmost (gate_rows posted (is_cleared (stage_of s)) true name) → Stored v s
entry_stores v posted s name e = entering_stores v s (gate_entering posted (is_cleared (stage_of s)) name e)

-- A point that can be posted is cleared.
pub gate_cleared : (posted : ℕ) (is_cleared : Bool) (name : ℕ) → None ≡ topmost (gate_rows posted is_cleared false name) → is_cleared ≡ true
gate_cleared posted true name e = refl
gate_cleared posted false name e = sym (quiet (gate_rows posted false false name) (sym e)).1.1.0

-- A day that takes a call has a point left.
pub gate_left : (posted : ℕ) (is_cleared wants : Bool) (name : ℕ) → None ≡ topmost (gate_rows posted is_cleared wants name) → posted < 96
gate_left posted is_cleared wants name e = leb-false 96 posted (quiet (gate_rows posted is_cleared wants name) (sym e)).0

-- Where no row of a first table applies, the second decides.
pub rows_pass : (xs ys : List Row) → None ≡ topmost xs → topmost (xs ++ ys) ≡ topmost ys
rows_pass [] ys e = refl
rows_pass (x ∷ xs) ys e =
    let first = no_row x xs (sym e) in
    cond-false x.cause (Some x.answer) (topmost (xs ++ ys)) first.0 ∙ rows_pass xs ys (sym first.1)

-- Where a row of a first table applies, it is given.
pub rows_stop : (xs ys : List Row) (r : Refusal) → Some r ≡ topmost xs → topmost (xs ++ ys) ≡ Some r
rows_stop [] ys r e = absurd (none_is_not_some r (sym e))
rows_stop (x ∷ xs) ys r e =
    elim (cases_Bool x.cause) [
      | inl h ↦ cond-true x.cause (Some x.answer) (topmost (xs ++ ys)) h ∙ sym (e ∙ cond-true x.cause (Some x.answer) (topmost xs) h)
      | inr h ↦ cond-false x.cause (Some x.answer) (topmost (xs ++ ys)) h ∙ rows_stop xs ys r (e ∙ cond-false x.cause (Some x.answer) (topmost xs) h)
    ]

-- A call that the day's state takes and whose own figures a row declines is declined by that row.
pub declined_by_figures : (v : View) (c : Call) (r : Refusal) → None ≡ topmost (state_rows v c) → Some r ≡ topmost (figure_rows c) → refusal v c ≡ Some r
declined_by_figures v c r taken figures = rows_pass (state_rows v c) (figure_rows c ++ book_rows v c) taken ∙ rows_stop (figure_rows c) (book_rows v c) r figures

-- What an accepted call tells: no row of its table applies.
use Rattle.std.proofs.Common.{◌≡◌, ℕ, Bool, true, false, not, ◌&&◌, List, [], ◌∷◌, ◌++◌, Some, None, sym, refl, ◌∙◌, inl, inr, arith}
use Rattle.std.proofs.lemmas.Bool.{cases_Bool, cond-true, cond-false}
use Rattle.market.specs.Rows.{Row, topmost}
use Rattle.book.specs.Views.{View}
use Rattle.book.specs.Calls.{Call, name_of}
use Rattle.book.specs.Tables.{is_cleared, wants_entering, gate_rows, state_rows, figure_rows, book_rows, refusal}

-- The rows of the gate, by what the day shows and the call, are the rows by the state of the day and the point.
pub gate_rows_are_state_rows : (v : View) (c : Call) → gate_rows v.posted (is_cleared v.stage) (wants_entering c) (name_of c) ≡ state_rows v c
gate_rows_are_state_rows v c = refl

-- Where no row applies, the first one does not, nor any behind it.
pub no_row : (r : Row) (rs : List Row) → topmost (r ∷ rs) ≡ None → (r.cause ≡ false) × (topmost rs ≡ None)
no_row r rs h =
    elim (cases_Bool r.cause) [
      | inl e ↦ absurd (let some : Some r.answer ≡ None = sym (cond-true r.cause (Some r.answer) (topmost rs) e) ∙ h in let z : ◌≡◌ {A = ℕ} 0 1 = cc in let no : ⊥ = omega arith in no)
      | inr e ↦ (e, sym (cond-false r.cause (Some r.answer) (topmost rs) e) ∙ h)
    ]

-- of no row is the cause there
abbrev pub Quiet : List Row → Type 0
Quiet [] = Unit {0}
Quiet (r ∷ rs) = (r.cause ≡ false) × Quiet rs

-- Where no row applies, of none is the cause there.
pub quiet : (rs : List Row) → topmost rs ≡ None → Quiet rs
quiet [] h = tt
quiet (r ∷ rs) h = ((no_row r rs h).0, quiet rs (no_row r rs h).1)

-- Where no row of two tables applies, none of the first does, nor any of the second.
pub no_row_of_both : (xs ys : List Row) → topmost (xs ++ ys) ≡ None → (topmost xs ≡ None) × (topmost ys ≡ None)
no_row_of_both [] ys h = (refl, h)
no_row_of_both (x ∷ xs) ys h =
    let first = no_row x (xs ++ ys) h in
    let rest = no_row_of_both xs ys first.1 in
    (cond-false x.cause (Some x.answer) (topmost xs) first.0 ∙ rest.0, rest.1)

-- Of an accepted call neither a row of the state applies, nor one of its figures, nor one of what is entered.
pub accepted_parts : (v : View) (c : Call) → refusal v c ≡ None → (topmost (state_rows v c) ≡ None) × ((topmost (figure_rows c) ≡ None) × (topmost (book_rows v c) ≡ None))
accepted_parts v c h =
    let parts = no_row_of_both (state_rows v c) (figure_rows c ++ book_rows v c) h in
    (parts.0, no_row_of_both (figure_rows c) (book_rows v c) parts.1)

-- An accepted call comes at the stage that it wants.
pub accepted_stage : (v : View) (c : Call) → refusal v c ≡ None → is_cleared v.stage ≡ not (wants_entering c)
accepted_stage v c h =
    let rows = quiet (state_rows v c) (accepted_parts v c h).0 in
    opposite (is_cleared v.stage) (wants_entering c) rows.1.0 rows.1.1.0
  where
    opposite : (x y : Bool) → (x && y) ≡ false → (not x && not y) ≡ false → x ≡ not y
    opposite true true p q = p
    opposite true false p q = refl
    opposite false true p q = refl
    opposite false false p q = sym q

use Rattle.std.proofs.Common.{◌≡◌, ℕ, suc, ◌+◌, ◌-◌, List, ◌++◌, length, vec_items, sym, ap, ◌∙◌, arith}
use Rattle.std.proofs.lemmas.List.{take_rest}
use Rattle.std.proofs.lemmas.Bool.{eqb-true}
use Rattle.desk.specs.Texts.{sheets_text}
use Rattle.desk.specs.Steps.{desk_of}
use Rattle.desk.proofs.Texts.{sheets_over, sheets_more, sheets_ended, sheets_all, some_left}
use Rattle.desk.proofs.whole.add_sheets.Goals as goal

pub returns-then-is_empty : goal.returns-then-is_empty
returns-then-is_empty c =
    let at = c.loop-turn in
    sheets_over (vec_items c.args.text.now ++ sheets_text 97 (desk_of c.args.desk.now) c.args.sheets.now) (vec_items at.text) (97 - at.turn) (desk_of at.desk) at.rest.now
    at.invariant.0 (eqb-true (length at.rest.now) 0 (sym c.is_empty.ensures ∙ c.if-is_empty.true))

pub returns-in_default : goal.returns-in_default
returns-in_default c =
    let at = c.loop-turn in
    let brought = c.in_ok-step.ensures in
    let more : 97 - at.turn ≡ suc (97 - (at.turn + 1)) = omega (arith, c.loop-turn-test.true) in
    sheets_ended (vec_items c.args.text.now ++ sheets_text 97 (desk_of c.args.desk.now) c.args.sheets.now) (vec_items at.text) (vec_items c.add_sheet.new.text)
    (97 - (at.turn + 1)) (97 - at.turn) (desk_of at.desk) (desk_of c.add_sheet.new.desk) at.rest.now
    at.invariant.0 more (some_left (length at.rest.now) c.is_empty.result c.is_empty.ensures c.if-is_empty.false) brought.text brought.sheet.shows
    (sym c.in_default.is ∙ brought.sheet.read)

pub loop-turn-preserved : goal.loop-turn-preserved
loop-turn-preserved c =
    let at = c.loop-turn in
    let brought = c.in_ok-step.ensures in
    let more : 97 - at.turn ≡ suc (97 - (at.turn + 1)) = omega (arith, c.loop-turn-test.true) in
    let after = vec_items c.add_sheet.new.text in
    let x = desk_of c.add_sheet.new.desk in (
      sheets_more (vec_items c.args.text.now ++ sheets_text 97 (desk_of c.args.desk.now) c.args.sheets.now) (vec_items at.text) after
          (97 - (at.turn + 1)) (97 - at.turn) c.in-Some.read (desk_of at.desk) x at.rest.now
          at.invariant.0 more (some_left (length at.rest.now) c.is_empty.result c.is_empty.ensures c.if-is_empty.false) brought.text brought.sheet.shows (sym c.in-Some.is ∙ brought.sheet.read)
          ∙ ap (λ (t : List ℕ). after ++ sheets_text (97 - (at.turn + 1)) x t) (sym (take_rest at.rest.now c.in-Some.read)),
      omega (arith, c.loop-turn-test.true),
    )

pub returns : goal.returns
returns c =
    let at = c.loop-turn in
    sheets_all (vec_items c.args.text.now ++ sheets_text 97 (desk_of c.args.desk.now) c.args.sheets.now) (vec_items at.text) (97 - at.turn) (desk_of at.desk) at.rest.now
    at.invariant.0 (omega (arith, c.loop-turn-test.false))

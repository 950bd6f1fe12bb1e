use Rattle.std.proofs.Common.{◌≡◌, ◌-◌, ◌≤◌, ◌++◌, vec_items}
use Rattle.desk.specs.Texts.{sheets_text}
use Rattle.desk.specs.Steps.{desk_of}
use Rattle.desk.proofs.whole.add_sheets.Given as goal

-- The sheets left bring the rest of the text.
abbrev pub invariant-loop-turn : goal.invariant-loop-turn
invariant-loop-turn l =
    (vec_items l.initial.text ++ sheets_text 97 (desk_of l.initial.desk) l.sheets ≡ vec_items l.text ++ sheets_text (97 - l.turn) (desk_of l.desk) l.rest)
    × (l.turn ≤ 97)

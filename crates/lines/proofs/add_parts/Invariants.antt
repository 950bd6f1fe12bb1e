use Rattle.std.proofs.Common.{◌≡◌, ℕ, ◌≤◌, List, ◌∷◌, ◌++◌, length, drop}
use Rattle.lines.specs.Lines.{fields_of}
use Rattle.lines.proofs.add_parts.Given as goal

-- Where the fields that are left are added too, the letter and all fields stand behind what the page held.
abbrev pub invariant-loop-number : goal.invariant-loop-number
invariant-loop-number g l =
    (l.page.items ++ fields_of (drop l.number-index l.fields) ≡ l.fn.page.items ++ (l.letter ∷ fields_of l.fields))
    × (length l.page.items ≤ g.row.ROOM)
    × ((more : List ℕ) × (l.page.items ≡ l.fn.page.items ++ more))

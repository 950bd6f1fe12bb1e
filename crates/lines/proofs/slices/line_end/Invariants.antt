use Rattle.std.proofs.Common.{◌≡◌, ◌+◌, ◌≤◌, length, drop}
use Rattle.lines.specs.Lines.{fields_of}
use Rattle.lines.proofs.slices.line_end.Given as goal

-- The room that is left is what the line leaves, and the fields that are still to come.
abbrev pub invariant-loop-number : goal.invariant-loop-number
invariant-loop-number l = (l.at + (2 + length (fields_of l.fields)) + l.room ≡ l.limit + length (fields_of (drop l.number-index l.fields))) × (l.room ≤ l.limit)

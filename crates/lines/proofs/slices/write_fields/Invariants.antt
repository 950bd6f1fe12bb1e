use Rattle.std.proofs.Common.{◌≡◌, ◌+◌, length, drop}
use Rattle.lines.specs.Lines.{fields_of, written}
use Rattle.lines.proofs.slices.write_fields.Given as goal

-- Where the fields that are left are written too, all are.
abbrev pub invariant-loop-number : goal.invariant-loop-number
invariant-loop-number l =
    (l.place + length (fields_of (drop l.number-index l.fields)) ≡ l.at + length (fields_of l.fields))
    × (written l.buffer l.place (fields_of (drop l.number-index l.fields)) ≡ written l.initial.buffer l.at (fields_of l.fields))

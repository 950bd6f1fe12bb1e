use Rattle.std.proofs.Common.{◌≡◌, ◌+◌, ◌≤◌, length}
use Rattle.lines.specs.Lines.{digits, written}
use Rattle.lines.proofs.slices.write_digits.Given as goal

-- Where the digits of the rest are written too, all are.
abbrev pub invariant-loop-rest : goal.invariant-loop-rest
invariant-loop-rest l =
    (l.place ≡ l.at + length (digits l.rest))
    × (l.rest ≤ l.number)
    × (l.place ≤ l.at + length (digits l.number))
    × (written l.buffer l.at (digits l.rest) ≡ written l.initial.buffer l.at (digits l.number))

abbrev pub decreases-loop-rest : goal.decreases-loop-rest
decreases-loop-rest l = l.rest

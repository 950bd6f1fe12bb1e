use Rattle.std.proofs.Common.{◌+◌, length, ap, arith}
use Rattle.lines.specs.Lines.{fields_of}
use Rattle.lines.proofs.Lines.{length_fields_left, fields_none, end_within, end_past}
use Rattle.lines.proofs.slices.line_end.Goals as goal

pub returns-then-room-need : goal.returns-then-room-need
returns-then-room-need c =
    let left = length_fields_left c.args.fields.now c.loop-number.number-index c.loop-number-test.true in
    end_past (c.args.at + (2 + length (fields_of c.args.fields.now))) c.args.limit (omega arith)

pub loop-number-init : goal.loop-number-init
loop-number-init c = (omega arith, omega arith)

pub loop-number-preserved : goal.loop-number-preserved
loop-number-preserved c =
    let left = length_fields_left c.args.fields.now c.loop-number.number-index c.loop-number-test.true in
    (omega arith, omega arith)

pub returns : goal.returns
returns c =
    let none = ap length (fields_none c.args.fields.now c.loop-number.number-index c.loop-number-test.false) in
    end_within (c.args.at + (2 + length (fields_of c.args.fields.now))) c.args.limit c.loop-number.room (omega arith)

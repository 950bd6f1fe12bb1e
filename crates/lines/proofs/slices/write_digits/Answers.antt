use Rattle.std.proofs.Common.{◌∙◌, arith}
use Rattle.lines.proofs.Digits.{digits_some, length_digits_more}
use Rattle.lines.proofs.Lines.{last_digit_written, first_digit_written}
use Rattle.lines.proofs.slices.write_digits.Goals as goal

pub overflow_sub-place : goal.overflow_sub-place
overflow_sub-place c = omega (arith, digits_some c.loop-rest.rest)

pub bounds-buffer-place : goal.bounds-buffer-place
bounds-buffer-place c = omega (arith, digits_some c.loop-rest.rest)

pub loop-rest-preserved : goal.loop-rest-preserved
loop-rest-preserved c =
    let more = length_digits_more c.loop-rest.rest (omega arith) (omega arith) in (
      omega arith,
      omega arith,
      omega arith,
      last_digit_written c.loop-rest.buffer c.args.at c.loop-rest.place c.loop-rest.rest c.loop-rest-test.true (omega arith) c.loop-rest.invariant.0 (omega arith) ∙ c.loop-rest.invariant.3,
    )

pub bounds-buffer-at : goal.bounds-buffer-at
bounds-buffer-at c = omega (arith, digits_some c.args.number)

pub returns : goal.returns
returns c = record {
  end = omega arith;
  bytes = first_digit_written c.loop-rest.buffer c.args.at c.loop-rest.rest (omega arith) (omega (arith, digits_some c.args.number)) ∙ c.loop-rest.invariant.3;
}

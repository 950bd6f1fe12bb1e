use Rattle.std.proofs.Common.{arith}
use Rattle.lines.proofs.Digits.{digits_some, digits_few, length_digits_one, length_digits_more}
use Rattle.lines.proofs.slices.digit_count.Goals as goal

pub overflow_add-count : goal.overflow_add-count
overflow_add-count c = omega (arith, digits_some c.loop-rest.rest, digits_few c.args.number)

pub loop-rest-preserved : goal.loop-rest-preserved
loop-rest-preserved c = (omega (arith, length_digits_more c.loop-rest.rest (omega arith) (omega arith)), omega arith)

pub returns : goal.returns
returns c =
    let one = length_digits_one c.loop-rest.rest (omega arith) in
    record { value = omega arith; few = omega (arith, digits_few c.args.number) }

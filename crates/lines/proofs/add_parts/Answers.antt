use Rattle.std.proofs.Common.{arith}
use Rattle.std.proofs.lemmas.Grind.{common_steps}
use Rattle.lines.proofs.Lines.{next_within}
use Rattle.lines.proofs.add_parts.Goals as goal

pub returns-in_err-add_field-clause-room : goal.returns-in_err-add_field-clause-room
returns-in_err-add_field-clause-room g c =
    let within = next_within c.args.page.now.items c.loop-number.page.items c.args.letter c.args.fields.now c.loop-number.number-index c.loop-number.invariant.0 c.loop-number-test.true in
    grind (arith, common_steps, within)

use Rattle.std.proofs.Common.{◌∙◌, arith}
use Rattle.lines.specs.Lines.{digits}
use Rattle.lines.proofs.Lines.{byte_then_written}
use Rattle.lines.proofs.slices.write_field.Goals as goal

pub returns : goal.returns
returns c = record {
  end = omega arith;
  bytes = c.write_digits.ensures.bytes ∙ byte_then_written c.args.buffer.now c.args.at 32 (digits c.args.number) (omega arith);
}

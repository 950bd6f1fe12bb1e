use Rattle.std.proofs.Common.{◌+◌, length, get_or, drop, sym, ap, ◌∙◌, arith}
use Rattle.lines.specs.Lines.{field, fields_of, written}
use Rattle.lines.proofs.Lines.{fields_left, length_fields_left, fields_none}
use Rattle.lines.proofs.Written.{written_none, written_then}
use Rattle.lines.proofs.slices.write_fields.Goals as goal

pub write_field-place-requires : goal.write_field-place-requires
write_field-place-requires c = omega (arith, length_fields_left c.args.fields.now c.loop-number.number-index c.loop-number-test.true)

pub loop-number-preserved : goal.loop-number-preserved
loop-number-preserved c =
    let i = c.loop-number.number-index in
    let ns = c.args.fields.now in
    let left = length_fields_left ns i c.loop-number-test.true in
    let here = field (get_or ns i 0) in
    let rest = fields_of (drop (i + 1) ns) in (
      omega arith,
      (λ k. written (c.write_field-place.ensures.bytes k) (c.write_field-place.ensures.end k) rest)
          ∙ written_then c.loop-number.buffer c.loop-number.place here rest (omega arith)
          ∙ ap (written c.loop-number.buffer c.loop-number.place) (sym (fields_left ns i c.loop-number-test.true))
          ∙ c.loop-number.invariant.1,
    )

pub returns : goal.returns
returns c =
    let none = fields_none c.args.fields.now c.loop-number.number-index c.loop-number-test.false in
    record {
      end = omega (arith, ap length none);
      bytes = sym (written_none c.loop-number.buffer c.loop-number.place) ∙ ap (written c.loop-number.buffer c.loop-number.place) (sym none) ∙ c.loop-number.invariant.1;
    }

use Rattle.std.proofs.Common.{◌+◌, length, set, Some, None, sym, ap, ◌∙◌, arith}
use Rattle.std.proofs.lemmas.Bool.{cond-true, cond-false, leb-true}
use Rattle.lines.specs.Lines.{fits, line_of, written}
use Rattle.lines.proofs.Digits.{digits_read_back, digits_are_digits, no_leading_zero}
use Rattle.lines.proofs.Lines.{end_of_line, answered_true, declined_false, line_written, length_line_of, worked_line}
use Rattle.lines.proofs.slices.write_line.Goals as goal

pub returns-in_default : goal.returns-in_default
returns-in_default c =
    let b = c.args.buffer.now in
    let at = c.args.at in
    let line = line_of c.args.letter c.args.fields.now in
    let answer = end_of_line None at (length b) c.args.letter c.args.fields.now c.in_default.ensures in
    record {
      end = answer;
      bytes = sym (cond-false (fits b at line) (written b at line) b (declined_false (fits b at line) (at + length line) answer));
      read_back = digits_read_back;
      figures = digits_are_digits;
      leading = no_leading_zero;
      worked = worked_line;
    }

pub returns : goal.returns
returns c =
    let b = c.args.buffer.now in
    let at = c.args.at in
    let line = line_of c.args.letter c.args.fields.now in
    let answer = end_of_line (Some c.in-Some.end) at (length b) c.args.letter c.args.fields.now c.in-Some.ensures in
    let yes = answered_true (fits b at line) c.in-Some.end (at + length line) answer in
    let room = leb-true (at + length line) (length b) yes in
    let last = c.write_fields-last.result in
    record {
      end = answer;
      bytes =
          ap (λ w. set w last 10) c.write_fields-last.ensures.bytes
          ∙ line_written b at c.args.letter last c.args.fields.now c.write_fields-last.ensures.end (omega (arith, length_line_of c.args.letter c.args.fields.now))
          ∙ sym (cond-true (fits b at line) (written b at line) b yes);
      read_back = digits_read_back;
      figures = digits_are_digits;
      leading = no_leading_zero;
      worked = worked_line;
    }

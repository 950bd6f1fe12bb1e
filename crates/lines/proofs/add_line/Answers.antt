use Rattle.lines.proofs.Digits.{digits_read_back, digits_are_digits, no_leading_zero}
use Rattle.lines.proofs.Lines.{worked_line}
use Rattle.lines.proofs.add_line.Goals as goal

pub returns-then-is_err-clause-read_back : goal.returns-then-is_err-clause-read_back
returns-then-is_err-clause-read_back g c = digits_read_back

pub returns-then-is_err-clause-figures : goal.returns-then-is_err-clause-figures
returns-then-is_err-clause-figures g c = digits_are_digits

pub returns-then-is_err-clause-leading : goal.returns-then-is_err-clause-leading
returns-then-is_err-clause-leading g c = no_leading_zero

pub returns-then-is_err-clause-worked : goal.returns-then-is_err-clause-worked
returns-then-is_err-clause-worked g c = worked_line

pub returns-else-is_err-clause-read_back : goal.returns-else-is_err-clause-read_back
returns-else-is_err-clause-read_back g c = digits_read_back

pub returns-else-is_err-clause-figures : goal.returns-else-is_err-clause-figures
returns-else-is_err-clause-figures g c = digits_are_digits

pub returns-else-is_err-clause-leading : goal.returns-else-is_err-clause-leading
returns-else-is_err-clause-leading g c = no_leading_zero

pub returns-else-is_err-clause-worked : goal.returns-else-is_err-clause-worked
returns-else-is_err-clause-worked g c = worked_line

use Rattle.std.proofs.Common.{ℕ, ◌+◌, ◌*◌, ◌/◌, ◌%◌, length, ap, ◌∙◌, arith, rules}
use Rattle.lines.specs.Lines.{written}
use Rattle.day.specs.Day.{accounts}
use Rattle.listings.specs.Listings.{lines_to, charge_line, unit_line, wires_line, branch_line}
use Rattle.listings.proofs.Texts.{two_long}
use Rattle.listings.proofs.LinesTo.{four_written}
use Rattle.listings.proofs.Answered.{closing_answer}
use Rattle.listings.proofs.list_closing.Goals as goal

pub returns : goal.returns
returns c =
    let b = c.args.buffer.now in
    let m = accounts c.args.day.now in
    let money = c.branch-day.ensures.money.0 in
    let kept = c.branch-day.result.fen * 40 + c.branch-day.result.fortieths in
    let charged = c.write_accounts in
    let paid = c.write_accounts-2 in
    let wired = c.write_accounts-3 in
    let all = c.write_branch in
    let listed = four_written b (lines_to 16 (charge_line m)) (lines_to 64 (unit_line m)) (lines_to 16 (wires_line m)) (branch_line m.branch)
    charged.new.page.end paid.new.page.end wired.new.page.end all.new.page.end
    charged.new.page.buffer.now paid.new.page.buffer.now wired.new.page.buffer.now all.new.page.buffer.now
    charged.ensures.text.end charged.ensures.text.bytes paid.ensures.text.end paid.ensures.text.bytes wired.ensures.text.end wired.ensures.text.bytes
    (all.ensures.end ∙ ap (λ (k : ℕ). wired.new.page.end + length (branch_line k)) money)
    (all.ensures.bytes ∙ ap (λ (k : ℕ). written wired.new.page.buffer.now wired.new.page.end (branch_line k)) money) in
    record {
      answer = closing_answer (length b) (omega (arith, c.if-buffer-lt-LISTING_ROOM.false));
      long = listed.0;
      few = omega (arith, charged.ensures.few, paid.ensures.few, wired.ensures.few, all.ensures.end, two_long 82 (kept / 40) (kept % 40));
      bytes = search rules ∙ listed.1;
    }

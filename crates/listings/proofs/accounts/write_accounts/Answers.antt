use Rattle.std.proofs.Common.{◌/◌, ◌%◌, [], ◌∷◌, arith}
use Rattle.lines.specs.Lines.{line_of}
use Rattle.day.specs.Day.{accounts}
use Rattle.listings.specs.Parties.{account_line, letter_of, money_of}
use Rattle.listings.proofs.Texts.{three_long, above_long}
use Rattle.listings.proofs.Pages.{on_none, on_more}
use Rattle.listings.proofs.accounts.write_accounts.Goals as goal

pub loop-number-init : goal.loop-number-init
loop-number-init c = on_none c.args.page.now (account_line c.args.party (accounts c.args.day.now)) 65

pub loop-number-preserved : goal.loop-number-preserved
loop-number-preserved c =
    let n = c.loop-number.number in
    let letter = letter_of c.args.party in
    let m = money_of c.args.party (accounts c.args.day.now) n in
    on_more c.args.page.now (account_line c.args.party (accounts c.args.day.now)) 65 n c.loop-number.page c.write_account.new.page
    c.loop-number.invariant (above_long m 65 (line_of letter (n ∷ m / 40 ∷ m % 40 ∷ [])) (three_long letter n (m / 40) (m % 40)))
    (omega (arith, c.requires, c.loop-number.invariant.listed.few, c.loop-number-test.true)) c.write_account.ensures

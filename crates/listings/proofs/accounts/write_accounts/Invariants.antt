use Rattle.day.specs.Day.{accounts}
use Rattle.listings.specs.Parties.{account_line}
use Rattle.listings.proofs.Pages.{ListedOn}
use Rattle.listings.proofs.accounts.write_accounts.Given as goal

-- The lines so far are added.
abbrev pub invariant-loop-number : goal.invariant-loop-number
invariant-loop-number l = ListedOn l.initial.page (account_line l.party (accounts l.day)) 65 l.number l.page

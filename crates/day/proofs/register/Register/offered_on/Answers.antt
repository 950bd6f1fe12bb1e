use Rattle.std.proofs.Common.{◌≡◌, true, false, None, rules}
use Rattle.std.proofs.lemmas.Iterator.{cases_from_any, YieldsList-from_slice}
use borrow.Author.Tests.{tests}
use Rattle.book.specs.Tables.{offered_on}
use Rattle.day.specs.Shown.{offered}
use Rattle.day.proofs.Listed.{any_told}
use Rattle.day.proofs.register.Register.offered_on.Goals as goal

pub returns : goal.returns
returns c =
    let g = c.args.grid.number in
    any_told (λ o. offered_on (offered o) g) c.args.self.now.offers None 64 c.any.result (search rules)
    (cases_from_any _ _ _ (λ o. offered_on (offered o) g ≡ true) (λ o. offered_on (offered o) g ≡ false) c.any.ensures.ran (YieldsList-from_slice c.args.self.now.offers cc)
    (λ x q k. search (rules, tests)) (λ x q k. search (rules, tests)))

use Rattle.std.proofs.Common.{◌≡◌, true, false, is_some, None, rules}
use Rattle.std.proofs.lemmas.Iterator.{cases_from_any, YieldsList-from_slice}
use borrow.Author.Tests.{tests}
use Rattle.day.specs.Shown.{offered}
use Rattle.day.proofs.Listed.{any_told, offered_some}
use Rattle.day.proofs.register.Register.any_offered.Goals as goal

pub returns : goal.returns
returns c =
    any_told (λ o. is_some (offered o)) c.args.self.now.offers None 64 c.any.result (search rules)
    (cases_from_any _ _ _ (λ o. is_some (offered o) ≡ true) (λ o. is_some (offered o) ≡ false) c.any.ensures.ran (YieldsList-from_slice c.args.self.now.offers cc)
    (λ x q k. search (rules, tests, offered_some)) (λ x q k. search (rules, tests, offered_some)))

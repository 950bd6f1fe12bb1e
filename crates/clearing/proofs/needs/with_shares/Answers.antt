use Rattle.std.proofs.Common.{◌+◌, get_or, rules, inl, inr, arith}
use Rattle.std.proofs.lemmas.List.{get_or_past}
use Rattle.std.proofs.lemmas.Bool.{cases_lt}
use Rattle.clearing.proofs.Tables.{made_at}
use Rattle.clearing.proofs.needs.with_shares.Goals as goal

pub returns : goal.returns
returns c g =
    let made = c.from_fn.ensures.items in
    let got = c.args.got.now in
    let shares = c.args.shares.now in
    elim (cases_lt g 16) [
      | inl l ↦ made_at _ _ (λ k. get_or got k 0 + get_or shares k 0) c.from_fn.result 16 (λ i b q l k. search rules) 0 16 (omega arith) made.each g (omega arith) (omega arith)
      | inr past ↦ omega (arith, get_or_past c.from_fn.result g 0 (omega (arith, made.long)), get_or_past got g 0 (search rules), get_or_past shares g 0 (search rules))
    ]

use Rattle.std.proofs.Common.{◌<◌, length, sym, ap, ◌∙◌, rules}
use Rattle.std.proofs.lemmas.List.{get_or-map}
use Rattle.market.specs.Landing.{landed}
use Rattle.market.proofs.entries.UnitOffer.tier.Goals as goal

pub returns-clause-tier : goal.returns-clause-tier
returns-clause-tier c =
    let offers = c.args.self.now.offers in
    let within : c.args.band < length offers = search rules in
    record {
      some = search rules;
      capacity = search rules;
      landing = c.land.ensures ∙ ap (λ y. landed y c.args.charges) (sym (get_or-map (λ x. x.yuan) offers c.args.band c.index-self-band.result 0 within));
      class = search rules;
      place = search rules;
    }

use Rattle.std.proofs.Common.{◌≡◌, [], ◌∷◌, length, get_or, ◌∙◌, rules}
use Rattle.market.proofs.Checked.{offer_small, four, class_told, handed_over_lem}
use Rattle.market.proofs.entries.UnitOffer.checked.Goals as goal

pub of-requires-2 : goal.of-requires-2
of-requires-2 c = offer_small _ c.args.raw.now.offers c.if-above_maximum.ensures 0

pub of-requires-3 : goal.of-requires-3
of-requires-3 c = offer_small _ c.args.raw.now.offers c.if-above_maximum.ensures 1

pub of-requires-4 : goal.of-requires-4
of-requires-4 c = offer_small _ c.args.raw.now.offers c.if-above_maximum.ensures 2

pub of-requires-5 : goal.of-requires-5
of-requires-5 c = offer_small _ c.args.raw.now.offers c.if-above_maximum.ensures 3

pub returns : goal.returns
returns c =
    let os = c.args.raw.now.offers in
    let long : length os ≡ 4 = search rules in
    let each : c.of-2.result.yuan ∷ c.of-3.result.yuan ∷ c.of-4.result.yuan ∷ c.of-5.result.yuan ∷ [] ≡ get_or os 0 0 ∷ get_or os 1 0 ∷ get_or os 2 0 ∷ get_or os 3 0 ∷ [] = cc in
    record {
      answer = search rules;
      entered = handed_over_lem c.args.raw.now (record { unit = c.in_ok-unit.unit; grid = c.in_ok-grid.grid; class = c.in_ok-class.class; figures = c.of.result; offers = c.of-2.result ∷ c.of-3.result ∷ c.of-4.result ∷ c.of-5.result ∷ [] }) c.in_ok-unit.ensures c.in_ok-grid.ensures (class_told c.args.raw.now.class c.in_ok-class.class c.in_ok-class.ensures) c.of.ensures (each ∙ four os long);
    }

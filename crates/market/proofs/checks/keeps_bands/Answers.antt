use Rattle.std.proofs.Common.{ap, eqb, drop, arith, take_all, ◌∙◌}
use Rattle.std.proofs.lemmas.List.{length-drop}
use Rattle.std.specs.List.{list_all}
use Rattle.std.proofs.lemmas.List.Sorted.{non_decreasing_from_is_sorted}
use Rattle.market.proofs.Checked.{falls, rest_decides}
use Rattle.market.proofs.checks.keeps_bands.Goals as goal

pub returns-then-is_sorted : goal.returns-then-is_sorted
returns-then-is_sorted c =
    c.all_zero.ensures
    ∙ ap (list_all (λ o. eqb o 0)) (take_all _ (drop c.args.bands c.args.offers.now) (omega (arith, length-drop c.args.bands c.args.offers.now)))
    ∙ rest_decides c.args.bands c.args.offers.now c.is_sorted.result (non_decreasing_from_is_sorted _ _ c.is_sorted.ensures.cases) c.if-is_sorted.true

pub returns-else-is_sorted : goal.returns-else-is_sorted
returns-else-is_sorted c =
    c.if-is_sorted.false ∙ falls c.args.bands c.args.offers.now c.is_sorted.result (non_decreasing_from_is_sorted _ _ c.is_sorted.ensures.cases) c.if-is_sorted.false

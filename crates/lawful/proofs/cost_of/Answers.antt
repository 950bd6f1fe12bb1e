-- The loop sums the cost of the places it has passed.
use Rattle.std.proofs.Common.{◌≡◌, ℕ, ◌*◌, ◌≤◌, get_or, sym, ap, ◌∙◌, ap₂, mul-le-mul, arith}
use Rattle.lawful.specs.Awards.{cost}
use Rattle.lawful.proofs.Sums.{sum_none, sum_more}
use Rattle.lawful.proofs.Worth.{filled_is_cheapest}
use Rattle.lawful.proofs.cost_of.Goals as goal

pub loop-p-init : goal.loop-p-init
loop-p-init c = (sym (sum_none (λ p. get_or c.args.award.now p 0 * get_or c.args.price.now p 0)), omega arith)

-- what one place costs fits under the product of the greatest quantity and the greatest price
item_most : (c : goal.After-from-in-loop-p) → c.from.result * c.from-in-loop-p.result ≤ 65535 * 4294967295
item_most c =
    let quantity : c.from.result ≤ 65535 = omega (arith, c.fits-award c.loop-p.p) in
    let each : c.from-in-loop-p.result ≤ 4294967295 = omega (arith, c.fits-price c.loop-p.p) in
    mul-le-mul quantity each

pub overflow_add-sum : goal.overflow_add-sum
overflow_add-sum c = let most = item_most c in omega arith

pub loop-p-preserved : goal.loop-p-preserved
loop-p-preserved c =
    let most = item_most c in
    let held : ℕ → ℕ = λ p. get_or c.args.award.now p 0 in
    let asked : ℕ → ℕ = λ p. get_or c.args.price.now p 0 in
    let here : c.from.result * c.from-in-loop-p.result ≡ held c.loop-p.p * asked c.loop-p.p = ap₂ ◌*◌ c.from.ensures c.from-in-loop-p.ensures in
    (omega (arith, sum_more c.loop-p.p (λ p. held p * asked p)), omega arith)

pub returns : goal.returns
returns c = record { value = c.loop-p.invariant.0 ∙ ap (λ n. cost n (λ p. get_or c.args.price.now p 0) (λ p. get_or c.args.award.now p 0)) (omega arith); cheapest = filled_is_cheapest }

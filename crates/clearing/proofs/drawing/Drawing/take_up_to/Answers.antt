use Rattle.std.proofs.Common.{◌≡◌, ◌+◌, ◌<◌, length, get_or, set, is_ok, sym, ap, ◌∙◌, arith, rules}
use Rattle.lawful.specs.Awards.{raise}
use Rattle.lawful.specs.Lawful.{above}
use Rattle.lawful.proofs.Sums.{term_le_sum}
use Rattle.screen.specs.Meaning.{after_take}
use Rattle.clearing.specs.Awarded.{award_of}
use Rattle.clearing.proofs.Takes.{above_raised, raised_list, total_after}
use Rattle.clearing.proofs.drawing.Drawing.take_up_to.Goals as goal

pub overflow_add-self : goal.overflow_add-self
overflow_add-self g c =
    let xs = c.args.self.now.awards in
    let inside : c.from.result < 256 = search rules in
    omega (arith, term_le_sum 256 (award_of xs) c.from.result inside)

-- What was taken is permitted on top of the award so raised.
pub invariant_of-self : goal.invariant_of-self
invariant_of-self g c =
    let before = c.args.self.now in
    let xs = before.awards in
    let at = c.from.result in
    let q = c.min-taken.result in
    let A = g.S.Screen.fresh before.screen.now in
    let inside : at < length xs = search rules in
    let one_place : c.from-at.result ≡ at = omega (arith, c.from-at.ensures, c.from.ensures) in
    let same : A ≡ g.S.Screen.fresh c.take.new.self = sym (g.met.S.Screen.decided c.take.new.self before.screen.now c.take.ensures.set) in
    record {
      opened =
          c.take.ensures.taken (ap is_ok c.unwrap.ensures)
          ∙ ap (λ B. after_take B c.from-at.result q) before.opened
          ∙ above_raised A (award_of xs) c.from-at.result q
          ∙ ap (λ z. above z A) (ap (λ k. raise (award_of xs) k q) one_place ∙ sym (raised_list xs at q inside))
          ∙ ap (above (award_of (set xs at (get_or xs at 0 + q)))) same;
    }

pub returns-clause-more : goal.returns-clause-more
returns-clause-more g c =
    let xs = c.args.self.now.awards in
    total_after (award_of xs) _ c.from.result c.min-taken.result (search rules) (raised_list xs c.from.result c.min-taken.result (search rules))

use Rattle.std.proofs.Common.{◌≡◌, ◌+◌, ◌-◌, ap, ◌∙◌, arith}
use Rattle.outcome.specs.Groups.{total, second_round}
use Rattle.clearing.specs.Awarded.{award_of, places_of, capacities_of}
use Rattle.clearing.proofs.Rounds.{two_rounds}
use Rattle.clearing.proofs.drawing.Drawing.work_group.Goals as goal

pub returns : goal.returns
returns g c =
    let first = c.first_round-first in
    let second = c.second_round in
    let A = g.S.Screen.fresh c.args.self.now.screen.now in
    let ps = places_of c.args.group.now in
    let cs = capacities_of c.args.group.now in
    let y = award_of first.new.self.awards in
    let took = first.ensures.taken in
    let same = g.met.S.Screen.decided first.new.self.screen.now c.args.self.now.screen.now first.ensures.same.1 in
    let ended : award_of second.new.self.awards ≡ second_round A (total y + (c.args.want - first.result)) ps cs y =
    second.ensures.award ∙ ap (λ B. second_round B (total y + (c.args.want - first.result)) ps cs y) same in
    record {
      award = two_rounds A c.args.want first.result ps cs (award_of c.args.self.now.awards) y (award_of second.new.self.awards) first.ensures.award took.0 took.1 ended;
      taken = (omega (arith, took, second.ensures.taken), omega (arith, took, second.ensures.taken));
      same = (second.ensures.same.0 ∙ first.ensures.same.0, second.ensures.same.1 ∙ first.ensures.same.1);
    }

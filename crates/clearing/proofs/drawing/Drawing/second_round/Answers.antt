use Rattle.std.proofs.Common.{◌≡◌, ◌+◌, ◌-◌, min, sym, ap, ◌∙◌, arith}
use Rattle.outcome.specs.Groups.{total, room_over}
use Rattle.clearing.specs.Awarded.{award_of}
use Rattle.clearing.proofs.Rounds.{second_step, second_done}
use Rattle.clearing.proofs.drawing.Drawing.second_round.Goals as goal

pub take_up_to-left-requires : goal.take_up_to-left-requires
take_up_to-left-requires g c = omega (arith, c.loop-tier.invariant.3, c.requires, c.min.ensures)

pub loop-tier-preserved : goal.loop-tier-preserved
loop-tier-preserved g c =
    let inv = c.loop-tier.invariant in
    let take = c.take_up_to-left in
    let A = g.S.Screen.fresh c.args.self.now.screen.now in
    let z = award_of c.loop-tier.self.awards in
    let t = c.tier-item.result in
    let p = t.place.number in
    let left = c.loop-tier.left in
    let goal = total (award_of c.args.self.now.awards) + c.args.want in
    let same : g.S.Screen.fresh c.loop-tier.self.screen.now ≡ A = g.met.S.Screen.decided c.loop-tier.self.screen.now c.args.self.now.screen.now inv.1 in
    let read : z c.from.result ≡ z p = ap z c.from.ensures in
    let asked : c.min.result ≡ min left (t.capacity - z p) = omega (arith, read, c.min.ensures, c.saturating_sub-more.ensures, c.from-in-loop-tier.ensures) in
    let took : take.result ≡ min (min left (t.capacity - z p)) (room_over A z p) =
    take.ensures.taken ∙ ap (λ B. min c.min.result (room_over B z p)) same ∙ ap (λ q. min q (room_over A z p)) asked in (
      take.ensures.same.0 ∙ inv.0,
      take.ensures.same.1 ∙ inv.1,
      omega (arith, inv.2),
      omega (arith, inv.3, take.ensures.more, took),
      second_step A goal c.args.group.now z (award_of take.new.self.awards) c.loop-tier.tier-index left take.result t c.loop-tier-test.true c.tier-item.is inv.3 took take.ensures.award
          ∙ inv.4,
    )

pub returns : goal.returns
returns g c =
    let inv = c.loop-tier.invariant in
    let A = g.S.Screen.fresh c.args.self.now.screen.now in
    let z = award_of c.args.self.now.awards in
    record {
      award =
          sym (second_done A (total z + c.args.want) c.args.group.now (award_of c.loop-tier.self.awards) c.loop-tier.tier-index c.loop-tier-test.false)
          ∙ inv.4;
      taken = (omega (arith, inv.2, inv.3), omega arith);
      same = (inv.0, inv.1);
    }

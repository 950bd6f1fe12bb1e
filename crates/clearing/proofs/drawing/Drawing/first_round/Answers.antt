use Rattle.std.proofs.Common.{◌≡◌, ◌+◌, ◌≤◌, min, sum, sym, ap, ◌∙◌, arith}
use Rattle.outcome.specs.Groups.{first_round, room_over}
use Rattle.market.specs.Sharing.{share_at}
use Rattle.clearing.specs.Awarded.{award_of, places_of, capacities_of}
use Rattle.clearing.proofs.Rounds.{first_from, first_step, first_done, left_more, targets_are_shares, share_by, taken_more, part_within, share_within}
use Rattle.clearing.proofs.drawing.Drawing.first_round.Given as given
use Rattle.clearing.proofs.drawing.Drawing.first_round.Goals as goal
use Rattle.clearing.proofs.drawing.Drawing.first_round.Goals.{After-unwrap-target}

-- A tier's target is its share of the quantity, and on top of what was taken keeps within the want.
module _ (g : given.Over) (c : After-unwrap-target g) where
  target_is : c.unwrap-target.result ≡ share_at c.unwrap-sharing.result.quantity c.unwrap-sharing.result.claims c.loop-tier.sharing.running c.tier-item.result.capacity
  target_is =
      let inv = c.loop-tier.invariant in
      let share = rw c.unwrap-target.ensures at c.next_share.ensures.share in
      share_by c.unwrap-sharing.result.quantity c.loop-tier.sharing.quantity c.unwrap-sharing.result.claims c.loop-tier.sharing.claims c.loop-tier.sharing.running
      c.tier-item.result.capacity c.from.result c.unwrap-target.result
      share.1 inv.3 inv.4 c.from.ensures

  target_within : c.loop-tier.taken + c.unwrap-target.result ≤ c.args.want
  target_within =
      let inv = c.loop-tier.invariant in
      let began = rw c.unwrap-sharing.ensures at c.start.ensures in
      let share = rw c.unwrap-target.ensures at c.next_share.ensures.share in
      let room : c.loop-tier.sharing.running + c.tier-item.result.capacity ≤ c.unwrap-sharing.result.claims = omega (arith, share.0, c.from.ensures, inv.4) in
      let fits = share_within c.unwrap-sharing.result.quantity c.unwrap-sharing.result.claims c.loop-tier.sharing.running c.tier-item.result.capacity
      c.loop-tier.taken c.unwrap-target.result c.unwrap-sharing.result.enough room inv.6 target_is in
      omega (arith, fits, began.0, c.min.ensures)

pub take_up_to-taken-requires : goal.take_up_to-taken-requires
take_up_to-taken-requires g c =
    record { fits = omega (arith, target_within g (goal.at.take_up_to-taken-requires g c).After-unwrap-target, c.loop-tier.invariant.2, c.requires.fits) }

pub overflow_add-taken : goal.overflow_add-taken
overflow_add-taken g c = omega (arith, target_within g (goal.at.overflow_add-taken g c).After-unwrap-target, c.take_up_to-taken.ensures.taken, c.ranges.want)

pub loop-tier-preserved : goal.loop-tier-preserved
loop-tier-preserved g c =
    let inv = c.loop-tier.invariant in
    let take = c.take_up_to-taken in
    let A = g.S.Screen.fresh c.args.self.now.screen.now in
    let Q = c.unwrap-sharing.result.quantity in
    let N = c.unwrap-sharing.result.claims in
    let P = c.loop-tier.sharing.running in
    let z = award_of c.loop-tier.self.awards in
    let y = award_of take.new.self.awards in
    let tiers = c.args.group.now in
    let i = c.loop-tier.tier-index in
    let t = c.tier-item.result in
    let target = c.unwrap-target.result in
    let served = c.next_share.ensures in
    let same : g.S.Screen.fresh c.loop-tier.self.screen.now ≡ A = g.met.S.Screen.decided c.loop-tier.self.screen.now c.args.self.now.screen.now inv.1 in
    let runs : c.next_share.new.self.running ≡ P + t.capacity = rw c.unwrap-target.ensures at served.running ∙ ap (λ m. P + m) c.from.ensures in
    let share = target_is g (goal.at.loop-tier-preserved g c).After-unwrap-target in
    let took : take.result ≡ min target (room_over A z t.place.number) = take.ensures.taken ∙ ap (λ B. min target (room_over B z t.place.number)) same in
    let no_more : take.result ≤ target = omega (arith, took) in (
      take.ensures.same.0 ∙ inv.0,
      take.ensures.same.1 ∙ inv.1,
      omega (arith, inv.2, take.ensures.more),
      served.kept.0 ∙ inv.3,
      served.kept.1 ∙ inv.4,
      omega (arith, inv.5, runs, left_more tiers i t c.loop-tier-test.true c.tier-item.is),
      taken_more Q N P t.capacity c.next_share.new.self.running c.loop-tier.taken take.result target inv.6 share no_more runs,
      first_step A Q N P c.next_share.new.self.running tiers z y i target take.result t c.loop-tier-test.true c.tier-item.is runs share took take.ensures.award
          ∙ inv.7,
    )

pub returns : goal.returns
returns g c =
    let inv = c.loop-tier.invariant in
    let A = g.S.Screen.fresh c.args.self.now.screen.now in
    let tiers = c.args.group.now in
    let Q = c.unwrap-sharing.result.quantity in
    let N = c.unwrap-sharing.result.claims in
    let z = award_of c.args.self.now.awards in
    let began = rw c.unwrap-sharing.ensures at c.start.ensures in
    let all : N ≡ sum (capacities_of tiers) = began.1 ∙ c.group_capacity-capacity.ensures in
    let least : Q ≡ min c.args.want (sum (capacities_of tiers)) =
    began.0 ∙ c.min.ensures ∙ ap (min c.args.want) c.group_capacity-capacity.ensures in
    record {
      award =
          sym (first_done A Q N c.loop-tier.sharing.running tiers (award_of c.loop-tier.self.awards) c.loop-tier.tier-index c.loop-tier-test.false)
          ∙ inv.7
          ∙ ap (λ q. first_from A q N 0 tiers z) least
          ∙ ap (λ n. first_from A (min c.args.want (sum (capacities_of tiers))) n 0 tiers z) all
          ∙ ap (λ ts. first_round A (places_of tiers) ts z) (sym (targets_are_shares c.args.want (capacities_of tiers)));
      taken = (
        inv.2,
        omega (arith, inv.6, least, part_within Q N c.loop-tier.sharing.running c.unwrap-sharing.result.enough (omega (arith, inv.5))),
      );
      same = (inv.0, inv.1);
    }

use Rattle.std.proofs.Common.{◌≡◌, ◌+◌, ◌≤◌, drop, sum}
use Rattle.market.specs.Sharing.{part}
use Rattle.outcome.specs.Groups.{total}
use Rattle.clearing.specs.Awarded.{award_of, capacities_of}
use Rattle.clearing.proofs.Rounds.{first_from}
use Rattle.clearing.proofs.drawing.Drawing.first_round.Given as goal

abbrev pub invariant-loop-tier : goal.invariant-loop-tier
invariant-loop-tier g l =
    let A = g.S.Screen.fresh l.initial.self.screen.now in
    (l.self.screen.ghost_name ≡ l.initial.self.screen.ghost_name)
    × (g.S.Screen.settings l.self.screen.now ≡ g.S.Screen.settings l.initial.self.screen.now)
    × (l.taken + total (award_of l.initial.self.awards) ≡ total (award_of l.self.awards))
    × (l.sharing.quantity ≡ l.initial.sharing.quantity)
    × (l.sharing.claims ≡ l.initial.sharing.claims)
    × (l.sharing.running + sum (capacities_of (drop l.tier-index l.group)) ≡ l.initial.sharing.claims)
    × (l.taken ≤ part l.initial.sharing.quantity l.initial.sharing.claims l.sharing.running)
    × (first_from A l.initial.sharing.quantity l.initial.sharing.claims l.sharing.running (drop l.tier-index l.group) (award_of l.self.awards)
    ≡ first_from A l.initial.sharing.quantity l.initial.sharing.claims 0 l.group (award_of l.initial.self.awards))

use Rattle.std.proofs.Common.{◌≡◌, ◌+◌, ◌≤◌, drop}
use Rattle.outcome.specs.Groups.{total}
use Rattle.clearing.specs.Awarded.{award_of}
use Rattle.clearing.proofs.Rounds.{second_from}
use Rattle.clearing.proofs.drawing.Drawing.second_round.Given as goal

abbrev pub invariant-loop-tier : goal.invariant-loop-tier
invariant-loop-tier g l =
    let A = g.S.Screen.fresh l.initial.self.screen.now in
    let goal = total (award_of l.initial.self.awards) + l.want in
    (l.self.screen.ghost_name ≡ l.initial.self.screen.ghost_name)
    × (g.S.Screen.settings l.self.screen.now ≡ g.S.Screen.settings l.initial.self.screen.now)
    × (l.left ≤ l.want)
    × (total (award_of l.self.awards) + l.left ≡ goal)
    × (second_from A goal (drop l.tier-index l.group) (award_of l.self.awards) ≡ second_from A goal l.group (award_of l.initial.self.awards))

use Rattle.std.proofs.Common.{◌≡◌, ◌<◌, ◌≤◌}
use Rattle.loads.specs.Loads.{opened_to}
use Rattle.loads.proofs.sheets.open_limits.Given as goal

-- The limits of the nodes so far are open; once there was one, nothing is taken.
abbrev pub invariant-loop-node : goal.invariant-loop-node
invariant-loop-node g l =
    (g.S.Screen.settings l.screen ≡ opened_to (g.S.NodeLimits.layers l.initial.screen) (g.S.NodeLimits.nodes l.initial.screen) l.node (g.S.Screen.settings l.initial.screen))
    × (g.S.NodeLimits.nodes l.screen ≡ g.S.NodeLimits.nodes l.initial.screen)
    × (g.S.NodeLimits.layers l.screen ≡ g.S.NodeLimits.layers l.initial.screen)
    × (0 < l.node → 0 < g.S.NodeLimits.nodes l.initial.screen → g.S.Screen.ontop l.screen ≡ g.S.Screen.fresh l.screen)
    × (l.node ≤ 16)

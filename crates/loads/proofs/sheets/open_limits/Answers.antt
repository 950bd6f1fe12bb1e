use Rattle.std.proofs.Common.{ap, ◌∙◌, arith}
use Rattle.loads.proofs.Opening.{opened_more, still_open}
use Rattle.loads.proofs.sheets.open_limits.Goals as goal

pub loop-node-preserved : goal.loop-node-preserved
loop-node-preserved g c =
    let at = c.loop-node in
    let told = c.set_limit.ensures in
    let nodes = g.S.NodeLimits.nodes in
    let layers = g.S.NodeLimits.layers in
    let settings = g.S.Screen.settings in (
      opened_more (layers c.args.screen.now) (nodes c.args.screen.now) (layers at.screen) (nodes at.screen) at.node
          (settings c.args.screen.now) (settings at.screen) (settings c.set_limit.new.self) c.set_limit.result
          at.invariant.2 at.invariant.1 at.invariant.0 told.answer told.set (λ no. ap settings (told.declined no)),
      told.shape.0 ∙ at.invariant.1,
      told.shape.1 ∙ at.invariant.2,
      λ more some. still_open g.S.Screen.ontop g.S.Screen.fresh at.screen c.set_limit.new.self (nodes at.screen) at.node c.set_limit.result
          told.answer told.opened told.declined (λ begun there. at.invariant.3 begun some) (omega (arith, some, at.invariant.1)),
      omega (arith, c.loop-node-test.true),
    )

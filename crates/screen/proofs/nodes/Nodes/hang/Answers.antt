use Rattle.std.proofs.Common.{ap, ◌∙◌}
use Rattle.std.proofs.lemmas.List.{map-set}
use Rattle.screen.specs.Numbers.{numbers}
use Rattle.screen.proofs.nodes.Nodes.hang.Goals as goal

pub returns-clause-set : goal.returns-clause-set
returns-clause-set g c = λ _.
    rw (← c.in_ok-at.ensures, ← c.in_ok-node.ensures, ← c.from.ensures)
    (ap numbers c.reset.ensures.hangs ∙ map-set (λ x. x.number) c.args.self.now.hangs c.from.result c.in_ok-node.node)

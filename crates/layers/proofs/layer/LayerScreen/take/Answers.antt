use Rattle.std.proofs.Common.{None, arith}
use Rattle.std.proofs.lemmas.Result.{err_from_is_err_and}
use Rattle.screen.specs.Meaning.{answer_of}
use Rattle.screen.specs.Rooms.{take_above}
use Rattle.layers.specs.Cutting.{both}
use Rattle.layers.proofs.Both.{room_of_both, answer_of_both}
use Rattle.layers.proofs.layer.LayerScreen.take.Goals as goal

pub returns-then-quantity-most-clause-answer : goal.returns-then-quantity-most-clause-answer
returns-then-quantity-most-clause-answer g c =
    let s = c.args.self.now in
    let p = c.args.place in
    let A = g.S.Screen.ontop s.below in
    let K = g.T.Cut.kept s.table.left in
    let room = room_of_both A K p (g.T.Cut.most_at s.table.left p) (g.met.S.Screen.ontop_lawful s.below) (omega arith) (λ q. g.met.T.Cut.alone s.table.left p q (omega arith)) in
    let most = rw c.in_ok-at.ensures at c.most.ensures in
    take_above (both A K) p c.args.quantity (omega arith) (omega arith)

pub returns-in_err-take-clause-answer : goal.returns-in_err-take-clause-answer
returns-in_err-take-clause-answer g c =
    let s = c.args.self.now in
    let p = c.args.place in
    let e = err_from_is_err_and c.from_residual-in_err-take.result c.from_residual-in_err-take.ensures.1 in
    let most = rw c.in_ok-at.ensures at c.most.ensures in
    answer_of_both (g.S.Screen.ontop s.below) (g.T.Cut.kept s.table.left) p (g.T.Cut.most_at s.table.left p) (g.met.S.Screen.ontop_lawful s.below) (omega arith)
    (λ q. g.met.T.Cut.alone s.table.left p q (omega arith)) c.args.quantity (answer_of c.from_residual-in_err-take.result) (omega arith) (rw (e.1, e.2) c.in_err-take.ensures.answer)

pub returns-clause-answer : goal.returns-clause-answer
returns-clause-answer g c =
    let s = c.args.self.now in
    let p = c.args.place in
    let most = rw c.in_ok-at.ensures at c.most.ensures in
    answer_of_both (g.S.Screen.ontop s.below) (g.T.Cut.kept s.table.left) p (g.T.Cut.most_at s.table.left p) (g.met.S.Screen.ontop_lawful s.below) (omega arith)
    (λ q. g.met.T.Cut.alone s.table.left p q (omega arith)) c.args.quantity None (omega arith) c.in_ok-take.ensures.answer

use Rattle.std.proofs.Common.{arith}
use Rattle.layers.proofs.Both.{room_of_both}
use Rattle.layers.proofs.layer.LayerScreen.room.Goals as goal

pub returns : goal.returns
returns g c =
    let s = c.args.self.now in
    let p = c.args.place in
    let K = s.table.left in
    let told = rw c.in-Ok.ensures at c.most.ensures in
    omega (arith, room_of_both (g.S.Screen.ontop s.below) (g.T.Cut.kept K) p (g.T.Cut.most_at K p) (g.met.S.Screen.ontop_lawful s.below) (omega arith) (λ q. g.met.T.Cut.alone K p q (omega arith)))

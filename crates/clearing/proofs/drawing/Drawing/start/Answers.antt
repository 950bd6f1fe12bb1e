use Rattle.std.proofs.Common.{ℕ, replicate, sym, ◌∙◌}
use Rattle.clearing.proofs.Declarations.{zeros_at, above_zeros}
use Rattle.clearing.proofs.drawing.Drawing.start.Goals as goal

pub invariant_of-result : goal.invariant_of-result
invariant_of-result g c =
    let same = g.met.S.Screen.decided c.reset.new.self c.args.screen.now c.reset.ensures.set in
    record { opened = c.reset.ensures.opened ∙ sym same ∙ above_zeros (g.S.Screen.fresh c.reset.new.self) (replicate {A = ℕ} 256 0) (zeros_at 256) }

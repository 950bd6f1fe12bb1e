-- The loop sums what is drawn from the marked places it has passed.
use Rattle.std.proofs.Common.{ℕ, Bool, false, get_or, sym, ap, ◌∙◌, arith}
use Rattle.lawful.specs.Awards.{keep, within}
use Rattle.lawful.proofs.Sums.{sum_none, sum_more}
use Rattle.lawful.proofs.Awards.{keep_at, keep_outside}
use Rattle.lawful.proofs.Worth.{full_is_most}
use Rattle.lawful.proofs.drawn.Goals as goal
use Rattle.lawful.proofs.drawn.Goals.{then-from-p, else-from-p}

pub loop-p-init : goal.loop-p-init
loop-p-init c = (sym (sum_none (keep (λ p. get_or c.args.from.now p false) (λ p. get_or c.args.award.now p 0))), omega arith)

pub loop-p-preserved : goal.loop-p-preserved
loop-p-preserved c =
    let marked : ℕ → Bool = λ p. get_or c.args.from.now p false in
    let held : ℕ → ℕ = λ p. get_or c.args.award.now p 0 in
    let more = sum_more c.loop-p.p (keep marked held) in
    elim c.if-from-p.branch [
      | then-from-p w ↦ (omega (arith, keep_at marked held c.loop-p.p w.if-from-p.true), omega (arith, w.sum-is))
      | else-from-p w ↦ (omega (arith, keep_outside marked held c.loop-p.p w.if-from-p.false), omega (arith, w.sum-is))
    ]

pub returns : goal.returns
returns c = record { value = c.loop-p.invariant.0 ∙ ap (λ n. within n (λ p. get_or c.args.from.now p false) (λ p. get_or c.args.award.now p 0)) (omega arith); most = full_is_most }

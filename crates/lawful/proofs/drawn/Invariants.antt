use Rattle.std.proofs.Common.{◌≡◌, ◌*◌, ◌≤◌, false, get_or}
use Rattle.lawful.specs.Awards.{within}
use Rattle.lawful.proofs.drawn.Given as goal

abbrev pub invariant-loop-p : goal.invariant-loop-p
invariant-loop-p l =
    (l.sum ≡ within l.p (λ p. get_or l.from p false) (λ p. get_or l.award p 0)) × (l.sum ≤ 65535 * l.p)

use Rattle.std.proofs.Common.{◌≡◌, ◌*◌, ◌≤◌, get_or}
use Rattle.lawful.specs.Awards.{cost}
use Rattle.lawful.proofs.cost_of.Given as goal

abbrev pub invariant-loop-p : goal.invariant-loop-p
invariant-loop-p l =
    (l.sum ≡ cost l.p (λ p. get_or l.price p 0) (λ p. get_or l.award p 0)) × (l.sum ≤ 65535 * 4294967295 * l.p)

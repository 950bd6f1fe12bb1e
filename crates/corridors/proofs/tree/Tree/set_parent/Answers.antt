use Rattle.std.proofs.Common.{◌≡◌, ◌<◌, refl, arith}
use Rattle.std.proofs.lemmas.List.{map-set}
use Rattle.screen.specs.Numbers.{numbers}
use Rattle.corridors.proofs.Tables.{each_after_set}
use Rattle.corridors.proofs.tree.Tree.set_parent.Goals as goal

pub invariant_of-self : goal.invariant_of-self
invariant_of-self c =
    let s = c.args.self.now in
    let parents = numbers s.parents in
    let same = map-set (λ x. x.number) s.parents c.from.result c.in_ok-above.above in
    record {
      root =
          rw same (each_after_set (λ d v. d ≡ 0 → v ≡ 0) parents c.from.result c.in_ok-above.above.number (λ e. omega arith) (λ d e. rw e s.root) 0 refl);
      falling = rw same (each_after_set (λ d v. 0 < d → v < d) parents c.from.result c.in_ok-above.above.number (λ l. omega arith) s.falling);
    }

pub returns-clause-set : goal.returns-clause-set
returns-clause-set c =
    λ _. rw (← c.in_ok-corridor.ensures, ← c.in_ok-above.ensures, ← c.from.ensures) (map-set (λ x. x.number) c.args.self.now.parents c.from.result c.in_ok-above.above)

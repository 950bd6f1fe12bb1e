use Rattle.std.proofs.Common.{refl, arith}
use Rattle.corridors.proofs.Tables.{most_of_one_number}
use Rattle.corridors.proofs.tree.Tree.new.Goals as goal

pub invariant_of-result-2 : goal.invariant_of-result-2
invariant_of-result-2 c = record { root = refl; falling = λ d l. omega (arith, most_of_one_number 32 0 d) }

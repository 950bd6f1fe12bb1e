-- The numbers of a table of numbered things.
use Rattle.std.specs.Prelude.{ℕ, List, map}
use Rattle.market.specs.declared.figures.Numbered.{Numbered}

abbrev pub numbers : {last : ℕ} → List (Numbered last) → List ℕ
numbers xs = map (λ x. x.number) xs

-- How an amount of money prints.
use Rattle.std.specs.Prelude.{ℕ, List, ◌++◌, codes, decimal}
use Rattle.book.specs.declared.Money.{Money}

-- whole fen, one space, and the fortieths
abbrev pub printed : Money → List ℕ
printed m = decimal m.fen ++ (codes " " ++ decimal m.fortieths)

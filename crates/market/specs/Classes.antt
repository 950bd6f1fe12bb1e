-- The numbers of the classes.
use Rattle.std.specs.Prelude.{ℕ, cond, List, [], ◌∷◌, Some, None, Option, ◌==◌}
use Rattle.market.specs.declared.classes.Class.{Class}
use Rattle.market.specs.declared.classes.Class.TheVariants.{Hydro, Storage, Gas, LargeUltraLowCoal, SmallUltraLowCoal, LargeCoal, SmallCoal}

abbrev pub class_number : Class → ℕ
class_number Hydro = 1
class_number Storage = 2
class_number Gas = 3
class_number LargeUltraLowCoal = 4
class_number SmallUltraLowCoal = 5
class_number LargeCoal = 6
class_number SmallCoal = 7

abbrev pub all_classes : List Class
all_classes = Hydro ∷ Storage ∷ Gas ∷ LargeUltraLowCoal ∷ SmallUltraLowCoal ∷ LargeCoal ∷ SmallCoal ∷ []

abbrev pub class_in : List Class → ℕ → Option Class
class_in [] n = None
class_in (c ∷ cs) n = cond (class_number c == n) (Some c) (class_in cs n)

-- the class of this number, if there is one
abbrev pub class_at : ℕ → Option Class
class_at n = class_in all_classes n

-- Tables of refusals: rows in order, of which the topmost that applies is given.
use Rattle.std.specs.Prelude.{Bool, cond, List, [], ◌∷◌, Some, None, Option}
use Rattle.market.specs.declared.refusals.Refusal.{Refusal}

-- One row of a table of refusals: whether its cause is there, and what it then answers.
pub record Row : Type 0 where
  pub cause : Bool
  pub answer : Refusal

abbrev pub row : Bool → Refusal → Row
row cause answer = record { cause = cause; answer = answer }

-- the answer of the topmost row whose cause is there
abbrev pub topmost : List Row → Option Refusal
topmost [] = None
topmost (r ∷ rs) = cond r.cause (Some r.answer) (topmost rs)

-- The accounts at the end of a text are those of a day that closes well.
use Rattle.std.proofs.Common.{◌≡◌, ℕ, List, ◌++◌, ap, ◌∙◌, subst}
use mathlib.Core.Logic.{∥∥₁_map}
use Rattle.book.specs.Calls.{Call}
use Rattle.book.specs.Views.{View}
use Rattle.book.specs.Histories.{history}
use Rattle.day.specs.Day.{LedTo, ClosesWell}
use Rattle.listings.specs.Listings.{closing_listing}
use Rattle.desk.specs.Steps.{Closes, EndsWell}

pub ends_well : (text before : List ℕ) (v : View) → text ≡ before ++ closing_listing v.money → LedTo v → Closes v → EndsWell text
ends_well text before v is led closes = ∥∥₁_map led (λ (x : (h : List Call) × (v ≡ history h)).
    (x.0, before, is ∙ ap (λ (w : View). before ++ closing_listing w.money) x.1, subst (λ (w : View). ClosesWell x.0 w.money) x.1 (closes x.0 x.1)))

-- Tables of refusals of which no row applies.
use Rattle.std.proofs.Common.{◌≡◌, ℕ, Bool, true, false, cond, [], ◌∷◌, Some, None, Option, refl, ◌∙◌, arith}
use Rattle.std.proofs.lemmas.Bool.{cond-false}
use Rattle.market.specs.Rows.{row, topmost}
use Rattle.market.specs.declared.refusals.Refusal.{Refusal}

-- Something is not nothing.
pub some_none : {X : Type 0} (x : X) → Some x ≡ None → ⊥
some_none x is = grind (arith, is)

-- Two answers that are the same have the same number.
pub some_same : (m n : ℕ) → Some m ≡ Some n → m ≡ n
some_same m n is = cc

-- None of three rows applies.
pub none_of_three : (a b c : Bool) (x y z : Refusal) → a ≡ false → b ≡ false → c ≡ false → topmost (row a x ∷ row b y ∷ row c z ∷ []) ≡ None
none_of_three a b c x y z p q r =
    cond-false a (Some x) (cond b (Some y) (cond c (Some z) None)) p ∙ cond-false b (Some y) (cond c (Some z) None) q ∙ cond-false c (Some z) None r

-- Where no row applies, the first does not, nor does one of those below it.
pub first_false : (a : Bool) (x : Refusal) (o : Option Refusal) → cond a (Some x) o ≡ None → (a ≡ false) × (o ≡ None)
first_false true x o is = absurd (some_none x is)
first_false false x o is = (refl, is)

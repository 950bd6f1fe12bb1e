-- What an award is worth that draws on the places in an order: nobody draws more from a front part of the order, and nothing costs less.
use Rattle.std.specs.Prelude.{◌≡◌, ℕ, ◌<◌, ◌≤◌, Bool, true, false, ◌⊎◌, nat_le}
use Rattle.lawful.specs.Sums.{sum_to}
use Rattle.lawful.specs.Awards.{Award, AwardSet, raise, keep, within, cost}
use Rattle.lawful.specs.Lawful.{Lawful}

-- the award z lies wholly at the places of P
abbrev pub Inside : ℕ → (ℕ → Bool) → Award → Type 0
Inside n P z = within n P z ≡ sum_to n z

-- no place of P can be raised in the part of z that lies there
abbrev pub Full : ℕ → AwardSet → (ℕ → Bool) → Award → Type 0
Full n A P z = (p : ℕ) → p < n → P p ≡ true → A (raise (keep P z) p 1) ≡ false

-- of the members of A none draws more from P than z
abbrev pub Most : ℕ → AwardSet → (ℕ → Bool) → Award → Type 0
Most n A P z = (y : Award) → A y ≡ true → within n P y ≤ within n P z

-- of the members of A with the total of z none draws more from P than z
abbrev pub MostOfTotal : ℕ → AwardSet → (ℕ → Bool) → Award → Type 0
MostOfTotal n A P z = (y : Award) → A y ≡ true → sum_to n y ≡ sum_to n z → within n P y ≤ within n P z

-- of the members of A with the total of z none costs less than z
abbrev pub Cheapest : ℕ → AwardSet → (ℕ → ℕ) → Award → Type 0
Cheapest n A price z = (y : Award) → A y ≡ true → sum_to n y ≡ sum_to n z → cost n price z ≤ cost n price y

-- the places priced at v or below
abbrev pub up_to : (ℕ → ℕ) → ℕ → ℕ → Bool
up_to price v p = nat_le (price p) v

-- A part of the order at which nothing can be raised is drawn on as much as any member draws on it.
abbrev pub FullIsMost : Type 0
FullIsMost = (n : ℕ) (A : AwardSet) (P : ℕ → Bool) (z : Award) → Lawful n A → A z ≡ true → Full n A P z → Most n A P z

-- An award that at each price is inside the places priced so or lower, or fills them, is a cheapest one of its total.
abbrev pub FilledIsCheapest : Type 0
FilledIsCheapest =
    (n : ℕ) (A : AwardSet) (price : ℕ → ℕ) (z : Award) → Lawful n A → A z ≡ true
    → ((v : ℕ) → Inside n (up_to price v) z ⊎ Full n A (up_to price v) z) → Cheapest n A price z

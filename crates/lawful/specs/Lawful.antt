-- The three laws of a set of permitted awards over n places, and the ways in which limits cut such a set.
use Rattle.std.specs.Prelude.{◌≡◌, ℕ, ◌<◌, ◌≤◌, Bool, true, false, ◌&&◌, leb, ◌⊎◌, nat_le}
use Rattle.lawful.specs.Sums.{sum_to, all_below}
use Rattle.lawful.specs.Awards.{Award, AwardSet, zero_award, raise, plus, within, by_class}

pub record Lawful (n : ℕ) (A : AwardSet) : Type 0 where
  -- the zero award is a member
  pub zero_in : A zero_award ≡ true
  -- lowering a member's quantities gives a member
  pub lower : (x y : Award) → ((p : ℕ) → p < n → x p ≤ y p) → A y ≡ true → A x ≡ true
  -- of two members the one with the lesser total can be raised by one at some place where it holds less
  pub exchange : (x y : Award) → A x ≡ true → A y ≡ true → sum_to n x < sum_to n y → (p : ℕ) × (p < n) × (x p < y p) × (A (raise x p 1) ≡ true)

-- the members that keep a cap for each place
abbrev pub capped : ℕ → (ℕ → ℕ) → AwardSet → AwardSet
capped n cap A x = A x && all_below n (λ p. leb (x p) (cap p))

-- the members that keep one limit on the total
abbrev pub limited : ℕ → ℕ → AwardSet → AwardSet
limited n limit A x = A x && nat_le (sum_to n x) limit

-- what is permitted on top of the award t
abbrev pub above : Award → AwardSet → AwardSet
above t A x = A (plus x t)

-- the awards whose sums by class are in a set over the classes
abbrev pub summed : ℕ → (ℕ → ℕ) → AwardSet → AwardSet
summed n f A x = A (by_class n f x)

-- the awards that keep a limit on each of m groups of places; `has g p` says that the group g has the place p
abbrev pub grouped : ℕ → ℕ → (ℕ → ℕ → Bool) → (ℕ → ℕ) → AwardSet
grouped n m has limit x = all_below m (λ g. leb (within n (has g) x) (limit g))

-- each group lies wholly inside or wholly outside every group of lower number
abbrev pub Nested : ℕ → ℕ → (ℕ → ℕ → Bool) → Type 0
Nested n m has =
    (g h : ℕ) → g < h → h < m → ((p : ℕ) → p < n → has h p ≡ true → has g p ≡ true) ⊎ ((p : ℕ) → p < n → has h p ≡ true → has g p ≡ false)

-- A cap for each place keeps the laws.
abbrev pub CapsKeepLaws : Type 0
CapsKeepLaws = (n : ℕ) (cap : ℕ → ℕ) (A : AwardSet) → Lawful n A → Lawful n (capped n cap A)

-- One limit on the total keeps the laws.
abbrev pub TotalLimitKeepsLaws : Type 0
TotalLimitKeepsLaws = (n limit : ℕ) (A : AwardSet) → Lawful n A → Lawful n (limited n limit A)

-- What is permitted on top of a member keeps the laws.
abbrev pub AboveKeepsLaws : Type 0
AboveKeepsLaws = (n : ℕ) (t : Award) (A : AwardSet) → Lawful n A → A t ≡ true → Lawful n (above t A)

-- A lawful set over m classes gives one over the places that the classes sum.
abbrev pub SumsByClassKeepLaws : Type 0
SumsByClassKeepLaws = (n m : ℕ) (f : ℕ → ℕ) (A : AwardSet) → ((p : ℕ) → p < n → f p < m) → Lawful m A → Lawful n (summed n f A)

-- Limits on groups that nest keep the laws.
abbrev pub NestedGroupsAreLawful : Type 0
NestedGroupsAreLawful = (n m : ℕ) (has : ℕ → ℕ → Bool) (limit : ℕ → ℕ) → Nested n m has → Lawful n (grouped n m has limit)

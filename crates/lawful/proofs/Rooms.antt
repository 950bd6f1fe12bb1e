-- First consequences of the laws: only the places below n count, and each place has its room.
use Rattle.std.proofs.Common.{◌≡◌, ℕ, ◌<◌, ◌≤◌, Bool, true, false, sym, ◌∙◌, inl, inr, arith}
use Rattle.std.proofs.lemmas.Bool.{cases_Bool, both_ways}
use Rattle.lawful.specs.Sums.{greatest}
use Rattle.lawful.specs.Awards.{Award, AwardSet, zero_award, raise, keep}
use Rattle.lawful.specs.Lawful.{Lawful}
use Rattle.lawful.proofs.Sums.{greatest_passes, greatest_most, greatest_fails_above}
use Rattle.lawful.proofs.Awards.{raise_le, raise_by_none, keep_le}

-- Membership depends only on the places below n.
pub lawful_ext : (n : ℕ) (A : AwardSet) (x y : Award) → Lawful n A → ((p : ℕ) → p < n → x p ≡ y p) → A x ≡ A y
lawful_ext n A x y laws same =
    elim (cases_Bool (A x)) [
      | inl e ↦ e ∙ sym (laws.lower y x (λ p l. omega (arith, same p l)) e)
      | inr e ↦ elim (cases_Bool (A y)) [ inl d ↦ absurd (both_ways (A x) e (laws.lower x y (λ p l. omega (arith, same p l)) d)) | inr d ↦ e ∙ sym d ]
    ]

-- What holds no less at each place than an award that is no member is no member either.
pub higher_is_out : (n : ℕ) (A : AwardSet) (x y : Award) → Lawful n A → ((p : ℕ) → p < n → x p ≤ y p) → A x ≡ false → A y ≡ false
higher_is_out n A x y laws h out =
    elim (cases_Bool (A y)) [ inl e ↦ absurd (both_ways (A x) out (laws.lower x y h e)) | inr e ↦ e ]

-- The part of a member at some places is a member.
pub part_in : (n : ℕ) (A : AwardSet) (P : ℕ → Bool) (x : Award) → Lawful n A → A x ≡ true → A (keep P x) ≡ true
part_in n A P x laws h = laws.lower (keep P x) x (λ p l. keep_le P x p) h

-- Where a place can be raised by some quantity, it can be raised by less.
pub less_raised_in : (n : ℕ) (A : AwardSet) (x : Award) (p q r : ℕ) → Lawful n A → q ≤ r → A (raise x p r) ≡ true → A (raise x p q) ≡ true
less_raised_in n A x p q r laws l h = laws.lower (raise x p q) (raise x p r) (λ k _. raise_le x p q r l k) h

-- The room of a place can be awarded there.
pub room_in : (n : ℕ) (A : AwardSet) (p b : ℕ) → Lawful n A → A (raise zero_award p (greatest b (λ q. A (raise zero_award p q)))) ≡ true
room_in n A p b laws =
    greatest_passes b (λ q. A (raise zero_award p q)) (laws.lower (raise zero_award p 0) zero_award (λ k _. omega (arith, raise_by_none zero_award p k)) laws.zero_in)

-- What is no more than the room of a place can be awarded there.
pub within_room : (n : ℕ) (A : AwardSet) (p b q : ℕ) → Lawful n A → q ≤ greatest b (λ r. A (raise zero_award p r)) → A (raise zero_award p q) ≡ true
within_room n A p b q laws l =
    less_raised_in n A zero_award p q (greatest b (λ r. A (raise zero_award p r))) laws l (room_in n A p b laws)

-- What can be awarded at a place, up to the bound, is no more than its room.
pub room_most : (A : AwardSet) (p b q : ℕ) → q ≤ b → A (raise zero_award p q) ≡ true → q ≤ greatest b (λ r. A (raise zero_award p r))
room_most A p b q l h = greatest_most b (λ r. A (raise zero_award p r)) q l h

-- More than the room of a place, up to the bound, cannot be awarded there.
pub beyond_room : (A : AwardSet) (p b q : ℕ) → q ≤ b → greatest b (λ r. A (raise zero_award p r)) < q → A (raise zero_award p q) ≡ false
beyond_room A p b q l h = greatest_fails_above b (λ r. A (raise zero_award p r)) q l h

-- The group worked by hand: each room by its caps, and the two rounds of two tiers step by step.
use Rattle.std.proofs.Common.{◌≡◌, ℕ, ◌+◌, ◌-◌, ◌<◌, ◌≤◌, min, leb, [], ◌∷◌, sym, ap, ◌∙◌, inl, inr, arith}
use Rattle.std.proofs.lemmas.Bool.{cases_eq, cases_lt, le-leb, lt-leb}
use Rattle.std.proofs.lemmas.Bool.Decides.{nat_tests}
use Rattle.lawful.specs.Awards.{Award, AwardSet, zero_award, raise, plus}
use Rattle.lawful.specs.Lawful.{above, capped}
use Rattle.lawful.proofs.Sums.{sum_zeros, all_below_from, all_below_false}
use Rattle.lawful.proofs.Awards.{raise_at, raise_elsewhere, raise_by_none, sum_raise}
use Rattle.screen.specs.Rooms.{room_is, open_room}
use Rattle.outcome.specs.Groups.{total, room_over, targets, first_round, second_round}
use Rattle.outcome.specs.Worked.{tied, everything, cap_of_ten, WorkedTies}

-- On top of an award that keeps the caps, the room at a place is what its cap leaves, at most 20,000.
pub room_under_caps : (cap : ℕ → ℕ) (z : Award) → ((k : ℕ) → k < 256 → z k ≤ cap k) → (p : ℕ) → p < 256
    → room_over (capped 256 cap everything) z p ≡ min (cap p - z p) 20000
room_under_caps cap z keeps p h = room_is (above z (capped 256 cap everything)) p (cap p - z p) h permitted
  where
    kept : (q : ℕ) → q ≤ cap p - z p → (k : ℕ) → k < 256 → plus (raise zero_award p q) z k ≤ cap k
    kept q l k b =
        let here = keeps p h in
        let there = keeps k b in
        elim (cases_eq k p) [ inl e ↦ rw e (omega (arith, raise_at zero_award p q)) | inr ne ↦ omega (arith, raise_elsewhere zero_award p q k ne) ]

    broken : (q : ℕ) → cap p - z p < q → cap p < plus (raise zero_award p q) z p
    broken q l = omega (arith, raise_at zero_award p q)

    permitted : (q : ℕ) → q ≤ 20000 → above z (capped 256 cap everything) (raise zero_award p q) ≡ leb q (cap p - z p)
    permitted q _ =
        let x = plus (raise zero_award p q) z in
        elim (cases_lt (cap p - z p) q) [
          | inl l ↦ all_below_false 256 (λ k. leb (x k) (cap k)) p h (lt-leb (x p) (cap p) (broken q l)) ∙ sym (lt-leb q (cap p - z p) l)
          | inr l ↦ all_below_from 256 (λ k. leb (x k) (cap k)) (λ k b. le-leb (x k) (cap k) (kept q l k b)) ∙ sym (le-leb q (cap p - z p) l)
        ]

-- The two rounds of two tiers, by what each takes.
module _ (A : AwardSet) (p q : ℕ) (z : Award) (a b : ℕ) where
  first_of_two : (t u : ℕ) → min t (room_over A z p) ≡ a → min u (room_over A (raise z p a) q) ≡ b
      → first_round A (p ∷ q ∷ []) (t ∷ u ∷ []) z ≡ raise (raise z p a) q b
  unfolding first_round
  first_of_two t u h k = rw (h, k)

  second_of_two : (goal c d : ℕ) → min (goal - total z) (min (c - z p) (room_over A z p)) ≡ a
      → min (goal - total (raise z p a)) (min (d - raise z p a q) (room_over A (raise z p a) q)) ≡ b
      → second_round A goal (p ∷ q ∷ []) (c ∷ d ∷ []) z ≡ raise (raise z p a) q b
  unfolding second_round
  second_of_two goal c d h k = rw (h, k)

-- the award of a at place 0 and b at place 4
abbrev pair : ℕ → ℕ → Award
pair a b = raise (raise zero_award 0 a) 4 b

pair_total : (a b : ℕ) → total (pair a b) ≡ a + b
pair_total a b =
    omega (arith, sum_raise 256 (raise zero_award 0 a) 4 b (omega arith), sum_raise 256 zero_award 0 a (omega arith), sum_zeros 256)

-- The targets are 30 and 20.
tied_targets : targets (50 - total zero_award) (60 ∷ 40 ∷ []) ≡ 30 ∷ 20 ∷ []
tied_targets = rw (sum_zeros 256)

-- The group by what each of its four turns takes.
tied_is : (A : AwardSet) (a b c d : ℕ) → min 30 (room_over A zero_award 0) ≡ a → min 20 (room_over A (raise zero_award 0 a) 4) ≡ b
    → min (50 - (a + b)) (min (60 - pair a b 0) (room_over A (pair a b) 0)) ≡ c
    → min (50 - (a + b + c)) (min (40 - raise (pair a b) 0 c 4) (room_over A (raise (pair a b) 0 c) 4)) ≡ d
    → tied A ≡ raise (raise (pair a b) 0 c) 4 d
tied_is A a b c d h0 h1 h2 h3 =
    rw (tied_targets, first_of_two A 0 4 zero_award a b 30 20 h0 h1)
    (second_of_two A 0 4 (pair a b) c d 50 60 40 (rw (pair_total a b) h2) (rw (sum_raise 256 (pair a b) 0 c (omega arith), pair_total a b) h3))

-- the awards within the cap of ten
within_ten : (a b : ℕ) → a ≤ 10 → b ≤ 20000 → (k : ℕ) → k < 256 → pair a b k ≤ cap_of_ten k
within_ten a b la lb k _ = grind (arith, nat_tests)

-- without a screen
tied_open : tied everything ≡ raise (raise (pair 30 20) 0 0) 4 0
tied_open =
    let first = open_room 0 (omega arith) in
    let second = open_room 4 (omega arith) in
    tied_is everything 30 20 0 0 (rw first) (rw second) (rw first) (rw second)

-- with the cap of ten
tied_capped : tied (capped 256 cap_of_ten everything) ≡ raise (raise (pair 10 20) 0 0) 4 20
tied_capped =
    tied_is (capped 256 cap_of_ten everything) 10 20 0 20
    (rw (room_under_caps cap_of_ten zero_award (λ k l. omega arith) 0 (omega arith)))
    (rw (room_under_caps cap_of_ten (raise zero_award 0 10) (λ k l. omega (arith, within_ten 10 0 (omega arith) (omega arith) k l)) 4 (omega arith)))
    (rw (room_under_caps cap_of_ten (pair 10 20) (within_ten 10 20 (omega arith) (omega arith)) 0 (omega arith)))
    (rw (room_under_caps cap_of_ten (raise (pair 10 20) 0 0) (λ k l. omega (arith, raise_by_none (pair 10 20) 0 k, within_ten 10 20 (omega arith) (omega arith) k l)) 4 (omega arith)))

pub worked_ties : WorkedTies
worked_ties = (ap (λ z. z 0) tied_open, ap (λ z. z 4) tied_open, ap (λ z. z 0) tied_capped, ap (λ z. z 4) tied_capped)

-- Rooms and takes where limits cut the open set of the screen below.
use Rattle.std.proofs.Common.{◌≡◌, ℕ, ◌<◌, ◌≤◌, min, ◌&&◌, leb, [], ◌∷◌, Option, sym, ap, ◌∙◌, inl, inr, arith}
use Rattle.std.proofs.lemmas.Bool.{lt-ltb, le-leb, lt-leb, cases_lt}
use Rattle.std.proofs.lemmas.Bool.Decides.{nat_tests}
use Rattle.lawful.specs.Sums.{greatest}
use Rattle.lawful.specs.Awards.{AwardSet, zero_award, raise}
use Rattle.lawful.specs.Lawful.{Lawful}
use Rattle.lawful.proofs.Sums.{greatest_bounded}
use Rattle.lawful.proofs.Rooms.{within_room, beyond_room}
use Rattle.market.specs.declared.refusals.Refusal.{Refusal}
use Rattle.market.specs.Refusals.{refusal_of}
use Rattle.market.specs.Rows.{row, topmost}
use Rattle.screen.specs.Meaning.{room_at, take_rows}
use Rattle.screen.specs.Rooms.{room_is}
use Rattle.layers.specs.Cutting.{both}

-- A lawful set permits at a place alone what is no more than its room.
pub permits_up_to_room : (A : AwardSet) (p q : ℕ) → Lawful 256 A → p < 256 → q ≤ 20000 → A (raise zero_award p q) ≡ leb q (room_at A p)
permits_up_to_room A p q laws h le =
    rw (lt-ltb p 256 h) (let room : ℕ = greatest 20000 (λ r. A (raise zero_award p r)) in
    elim (cases_lt room q) [
      | inl l ↦ beyond_room A p 20000 q le l ∙ sym (lt-leb q room l)
      | inr l ↦ within_room 256 A p 20000 q laws l ∙ sym (le-leb q room l)
    ])

-- A room is at most 20,000.
pub room_bounded : (A : AwardSet) (p : ℕ) → p < 256 → room_at A p ≤ 20000
room_bounded A p h = rw (lt-ltb p 256 h) (greatest_bounded 20000 (λ q. A (raise zero_award p q)))

-- A lawful set A cut by limits that the awards of K keep: at the place p alone these are the quantities up to `own`.
module _ (A K : AwardSet) (p own : ℕ) (laws : Lawful 256 A) (inside : p < 256) (alone : (q : ℕ) → K (raise zero_award p q) ≡ leb q own) where
  -- The room is the lesser of what the limits leave and the room below.
  pub room_of_both : room_at (both A K) p ≡ min own (room_at A p)
  room_of_both = omega (arith, room_bounded A p inside, room_is (both A K) p (min own (room_at A p)) inside test)
    where
      test : (q : ℕ) → q ≤ 20000 → (A (raise zero_award p q) && K (raise zero_award p q)) ≡ leb q (min own (room_at A p))
      test q le = rw (permits_up_to_room A p q laws inside le, alone q) (grind (arith, nat_tests))

  -- What the limits permit is answered as the screen below answers it.
  pub answer_of_both : (q : ℕ) (a : Option Refusal) → q ≤ own → a ≡ topmost (take_rows A p q) → a ≡ topmost (take_rows (both A K) p q)
  answer_of_both q a le e =
      e ∙ ap (λ b. topmost (row (leb 256 p) (refusal_of 4 3 p) ∷ row b (refusal_of 15 3 p) ∷ [])) (rw room_of_both (grind (arith, nat_tests)))

-- Rooms and takes, by the set that is open.
use Rattle.std.specs.Prelude.{◌≡◌, ℕ, ◌<◌, ◌≤◌, min, true, Some, None, nat_le, refl}
use Rattle.std.proofs.Common.{sym}
use Rattle.std.proofs.lemmas.Bool.{lt-ltb, le-ltb, le-leb, lt-leb}
use Rattle.lawful.specs.Awards.{AwardSet, zero_award, raise}
use Rattle.lawful.specs.Lawful.{Lawful}
use Rattle.lawful.proofs.Sums.{greatest_is, less_somewhere}
use Rattle.market.specs.Refusals.{refusal_of}
use Rattle.market.specs.Rows.{topmost}
use Rattle.screen.specs.Meaning.{room_at, take_rows}

-- Where the quantities permitted at a place alone are those up to r, the room is r, at most 20,000.
pub room_is : (A : AwardSet) (p r : ℕ) → p < 256 → ((q : ℕ) → q ≤ 20000 → A (raise zero_award p q) ≡ nat_le q r) → room_at A p ≡ min r 20000
room_is A p r h t = rw (lt-ltb p 256 h) (greatest_is 20000 r (λ q. A (raise zero_award p q)) t)

pub room_outside : (A : AwardSet) (p : ℕ) → 256 ≤ p → room_at A p ≡ 0
room_outside A p h = rw (le-ltb p 256 h)

-- The three answers of a take.
module _ (A : AwardSet) (p q : ℕ) where
  pub take_outside : 256 ≤ p → Some (refusal_of 4 3 p) ≡ topmost (take_rows A p q)
  take_outside h = rw (le-leb 256 p h)

  pub take_above : p < 256 → room_at A p < q → Some (refusal_of 15 3 p) ≡ topmost (take_rows A p q)
  take_above h k = rw (lt-leb 256 p h, lt-ltb (room_at A p) q k)

  pub take_within : p < 256 → q ≤ room_at A p → None ≡ topmost (take_rows A p q)
  take_within h k = rw (lt-leb 256 p h, le-ltb (room_at A p) q k)

-- The set of all awards keeps the laws.
pub all_lawful : (n : ℕ) → Lawful n (λ _. true)
all_lawful n = record {
  zero_in = refl;
  lower = λ x y le in-y. refl;
  exchange = λ x y in-x in-y less. let k = less_somewhere n x y less in (k.0, k.1, k.2, refl);
}

pub open_room : (p : ℕ) → p < 256 → room_at (λ _. true) p ≡ 20000
open_room p h = room_is (λ _. true) p 20000 h (λ q le. sym (le-leb q 20000 le))

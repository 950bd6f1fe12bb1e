-- Which bids there are, and which levels the segment of a bid holds.
use Rattle.std.proofs.Common.{◌≡◌, ℕ, zero, suc, ◌<◌, ◌≤◌, Bool, true, false, not, ◌&&◌, eqb, ltb, leb, ◌⊎◌, sym, refl, inl, inr, arith}
use Rattle.std.proofs.lemmas.Bool.{cases_eq, cases_lt, and_parts, and_from, and_cases, or_cases, or_left, or_right, not-true, not-false, both_ways, ltb-true, leb-true, leb-false, eqb-true, lt-ltb, le-leb, eq-eqb}
use Rattle.outcome.specs.Entries.{Entries, Ranged, any_below, some_bids}
use Rattle.outcome.specs.Laws.{in_segment}

-- Where some number below n passes the test, here is one.
pub any_below_at : (n : ℕ) (t : ℕ → Bool) → any_below n t ≡ true → (k : ℕ) × (k < n) × (t k ≡ true)
unfolding any_below
any_below_at zero t h = absurd (both_ways true (sym h) refl)
any_below_at (suc n) t h =
    elim (or_cases (t n) (any_below n t) h) [ inl e ↦ (n, omega arith, e) | inr e ↦ let d = any_below_at n t e in (d.0, omega arith, d.2) ]

-- Where a number below n passes the test, some does.
pub any_below_from : (n : ℕ) (t : ℕ → Bool) (k : ℕ) → k < n → t k ≡ true → any_below n t ≡ true
unfolding any_below
any_below_from zero t k l h = absurd (omega arith)
any_below_from (suc n) t k l h =
    elim (cases_eq k n) [ inl e ↦ or_left (t n) (any_below n t) (rw e at h) | inr ne ↦ or_right (t n) (any_below n t) (any_below_from n t k (omega arith) h) ]

-- A bid is some grid's, with a need.
pub bidder : (e : Entries) (b : ℕ) → some_bids e b ≡ true → (g : ℕ) × (g < 16) × (0 < e.need g) × (e.bid g ≡ b)
bidder e b h =
    let d = any_below_at 16 (λ g. ltb 0 (e.need g) && eqb (e.bid g) b) h in
    let parts = and_parts (ltb 0 (e.need d.0)) (eqb (e.bid d.0) b) d.2 in
    (d.0, d.1, ltb-true 0 (e.need d.0) parts.0, eqb-true (e.bid d.0) b parts.1)

-- What a grid with a need bids is a bid.
pub bid_of_lem : (e : Entries) (g : ℕ) → g < 16 → 0 < e.need g → some_bids e (e.bid g) ≡ true
bid_of_lem e g l h =
    any_below_from 16 (λ k. ltb 0 (e.need k) && eqb (e.bid k) (e.bid g)) g l (and_from (ltb 0 (e.need g)) (eqb (e.bid g) (e.bid g)) (lt-ltb 0 (e.need g) h) (eq-eqb (e.bid g) (e.bid g) refl))

-- Every bid is at most the greatest price.
pub bid_le : (e : Entries) → Ranged e → (b : ℕ) → some_bids e b ≡ true → b ≤ 200000
bid_le e ranged b h = let d = bidder e b h in omega (arith, ranged.bids d.0, d.3)

-- the grid g bids from the landed offer of p on below b
abbrev bids_between : Entries → ℕ → ℕ → ℕ → Bool
bids_between e b p g = ltb 0 (e.need g) && (leb (e.landed p) (e.bid g) && ltb (e.bid g) b)

bids_between_lem : (e : Entries) (b p g : ℕ) → 0 < e.need g → e.landed p ≤ e.bid g → e.bid g < b → bids_between e b p g ≡ true
bids_between_lem e b p g need low high =
    and_from (ltb 0 (e.need g)) (leb (e.landed p) (e.bid g) && ltb (e.bid g) b) (lt-ltb 0 (e.need g) need)
    (and_from (leb (e.landed p) (e.bid g)) (ltb (e.bid g) b) (le-leb (e.landed p) (e.bid g) low) (lt-ltb (e.bid g) b high))

-- A place of the segment at b lands at or below b.
pub lands_within : (e : Entries) (b p : ℕ) → in_segment e b p ≡ true → e.landed p ≤ b
lands_within e b p h = leb-true (e.landed p) b (and_parts (leb (e.landed p) b) (not (any_below 16 (bids_between e b p))) h).0

-- A place of the segment at b lands above each bid before b.
pub lands_above : (e : Entries) (b p : ℕ) → in_segment e b p ≡ true → (c : ℕ) → c < b → some_bids e c ≡ true → c < e.landed p
lands_above e b p h c less some =
    let none = not-true (any_below 16 (bids_between e b p)) (and_parts (leb (e.landed p) b) (not (any_below 16 (bids_between e b p))) h).1 in
    let d = bidder e c some in
    elim (cases_lt c (e.landed p)) [
      | inl l ↦ l
      | inr l ↦
          let between = bids_between_lem e b p d.0 d.2 (omega (arith, d.3)) (omega (arith, d.3)) in
          absurd (both_ways (any_below 16 (bids_between e b p)) none (any_below_from 16 (bids_between e b p) d.0 d.1 between))
    ]

-- A place outside the segment at b lands above b, or at or below some bid before b.
pub out_of_segment : (e : Entries) (b p : ℕ) → in_segment e b p ≡ false → (b < e.landed p) ⊎ ((c : ℕ) × (c < b) × (some_bids e c ≡ true) × (e.landed p ≤ c))
out_of_segment e b p h =
    elim (and_cases (leb (e.landed p) b) (not (any_below 16 (bids_between e b p))) h) [
      | inl above ↦ inl (leb-false (e.landed p) b above)
      | inr some ↦
          let d = any_below_at 16 (bids_between e b p) (not-false (any_below 16 (bids_between e b p)) some) in
          let g = d.0 in
          let parts = and_parts (ltb 0 (e.need g)) (leb (e.landed p) (e.bid g) && ltb (e.bid g) b) d.2 in
          let ends = and_parts (leb (e.landed p) (e.bid g)) (ltb (e.bid g) b) parts.1 in
          inr (e.bid g, ltb-true (e.bid g) b ends.1, bid_of_lem e g d.1 (ltb-true 0 (e.need g) parts.0), leb-true (e.landed p) (e.bid g) ends.0)
    ]

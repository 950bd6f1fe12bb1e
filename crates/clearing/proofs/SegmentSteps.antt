-- From bid to bid: the segments up to a number that nobody bids in between, and one segment more.
use Rattle.std.proofs.Common.{◌≡◌, ℕ, zero, suc, ◌<◌, ◌≤◌, Bool, true, false, cond, ◌&&◌, ltb, sym, refl, ap, ◌∙◌, inl, inr, arith}
use Rattle.std.proofs.lemmas.Bool.{cases_Bool, cases_eq, cond-true, cond-false, and_from, and_parts, lt-ltb, ltb-true}
use Rattle.lawful.specs.Awards.{AwardSet}
use Rattle.lawful.proofs.Sums.{sum_le, sum_bound}
use Rattle.outcome.specs.Entries.{Entries, some_bids}
use Rattle.outcome.specs.Outcome.{start, segment, segments_below}
use Rattle.outcome.proofs.Bids.{bidder}
use Rattle.outcome.proofs.Sweeps.{sum_less}
use Rattle.clearing.specs.Progress.{bidders_below}

-- Before the first bid there is nothing.
pub segments_none : (A : AwardSet) (e : Entries) → segments_below A e 0 ≡ start
unfolding segments_below
segments_none A e = refl

-- A bid adds its segment.
pub segments_more : (A : AwardSet) (e : Entries) (b : ℕ) → some_bids e b ≡ true → segments_below A e (suc b) ≡ segment A e b (segments_below A e b)
unfolding segments_below
segments_more A e b some = cond-true (some_bids e b) (segment A e b (segments_below A e b)) (segments_below A e b) some

-- What nobody bids adds none.
pub segments_skip : (A : AwardSet) (e : Entries) (b : ℕ) → some_bids e b ≡ false → segments_below A e (suc b) ≡ segments_below A e b
unfolding segments_below
segments_skip A e b none = cond-false (some_bids e b) (segment A e b (segments_below A e b)) (segments_below A e b) none

-- Where nobody bids from n on below b, the segments below b are those below n.
pub segments_between : (A : AwardSet) (e : Entries) (n b : ℕ) → n ≤ b → ((k : ℕ) → n ≤ k → k < b → some_bids e k ≡ false) → segments_below A e b ≡ segments_below A e n
segments_between A e n zero le none = let same : zero ≡ n = omega arith in ap (segments_below A e) same
segments_between A e n (suc b) le none =
    elim (cases_eq n (suc b)) [
      | inl same ↦ ap (segments_below A e) (sym same)
      | inr other ↦ segments_skip A e b (none b (omega arith) (omega arith)) ∙ segments_between A e n b (omega arith) (λ k low high. none k low (omega arith))
    ]

-- whether a grid with a need bids below n
abbrev bids_below : Entries → ℕ → ℕ → Bool
bids_below e n g = ltb 0 (e.need g) && ltb (e.bid g) n

-- A bidder below n is one below any greater number.
bids_below_more : (e : Entries) (n b g : ℕ) → n ≤ b → cond (bids_below e n g) 1 0 ≤ cond (bids_below e b g) 1 0
bids_below_more e n b g le =
    elim (cases_Bool (bids_below e n g)) [
      | inl h ↦
          let parts = and_parts (ltb 0 (e.need g)) (ltb (e.bid g) n) h in
          let also : bids_below e b g ≡ true = and_from (ltb 0 (e.need g)) (ltb (e.bid g) b) parts.0 (lt-ltb (e.bid g) b (omega (arith, ltb-true (e.bid g) n parts.1))) in
          rw (h, also) (omega arith)
      | inr h ↦ rw h (omega arith)
    ]

-- The bidders below a number grow with it.
pub bidders_grow : (e : Entries) (n b : ℕ) → n ≤ b → bidders_below e n ≤ bidders_below e b
bidders_grow e n b le = sum_le 16 (λ g. cond (bids_below e n g) 1 0) (λ g. cond (bids_below e b g) 1 0) (λ g l. bids_below_more e n b g le)

-- There are at most as many bidders as grids.
pub bidders_few : (e : Entries) (n : ℕ) → bidders_below e n ≤ 16
bidders_few e n = omega (arith, sum_bound 16 1 (λ g. cond (bids_below e n g) 1 0) (λ g l. elim (cases_Bool (bids_below e n g)) [ inl h ↦ rw h (omega arith) | inr h ↦ rw h (omega arith) ]))

-- A bid has a bidder of its own.
pub bidders_more : (e : Entries) (b : ℕ) → some_bids e b ≡ true → bidders_below e b < bidders_below e (suc b)
bidders_more e b some =
    let d = bidder e b some in
    let g = d.0 in
    let not_yet : bids_below e b g ≡ false =
    elim (cases_Bool (bids_below e b g)) [
      | inl h ↦ absurd (omega (arith, ltb-true (e.bid g) b (and_parts (ltb 0 (e.need g)) (ltb (e.bid g) b) h).1, d.3))
      | inr h ↦ h
    ] in
    let by-now : bids_below e (suc b) g ≡ true = and_from (ltb 0 (e.need g)) (ltb (e.bid g) (suc b)) (lt-ltb 0 (e.need g) d.2) (lt-ltb (e.bid g) (suc b) (omega (arith, d.3))) in
    sum_less 16 (λ k. cond (bids_below e b k) 1 0) (λ k. cond (bids_below e (suc b) k) 1 0) g d.1 (λ k l. bids_below_more e b (suc b) k (omega arith)) (rw (not_yet, by-now) (omega arith))

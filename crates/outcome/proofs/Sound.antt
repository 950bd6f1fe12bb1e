-- Every segment of the outcome is sound, and so are the sums of all.
use Rattle.std.proofs.Common.{◌≡◌, ℕ, ◌<◌, ◌≤◌, true, inl, inr, arith}
use Rattle.outcome.specs.Entries.{Entries, level, some_bids}
use Rattle.outcome.specs.Outcome.{Outcome, outcome}
use Rattle.outcome.specs.Laws.{SegmentsAreSound}
use Rattle.outcome.proofs.Bids.{bid_le}
use Rattle.outcome.proofs.Segments.{Worked, worked_below}

-- A place that lands above every bid stands above the levels worked.
beyond_bids : (e : Entries) (n : ℕ) (o : Outcome) → Worked e n o → (p : ℕ) → ((b : ℕ) → some_bids e b ≡ true → b < e.landed p) → o.next ≤ level e p
beyond_bids e n o w p above = elim w.last_bid [ inl z ↦ omega arith | inr d ↦ omega (arith, d.3, above d.0 d.2) ]

-- The segments of the outcome are sound.
pub segments_are_sound : SegmentsAreSound
segments_are_sound A e lawful ranged =
    let w = worked_below A e ranged 200001 in (
      λ b some. w.sound b (omega (arith, bid_le e ranged b some)) some,
      record {
        sums = λ g l. w.sums g;
        none = λ b not-bid. w.empty b (inr not-bid);
        unsold = λ p l above. w.untouched p (beyond_bids e 200001 (outcome A e) w p above);
      },
    )

-- Beyond the grids nothing is got.
use Rattle.std.proofs.Common.{◌≡◌, ℕ, zero, suc, ◌+◌, ◌-◌, ◌*◌, ◌≤◌, get_or, sum, refl, ap, ◌∙◌, inl, inr, arith}
use Rattle.std.proofs.lemmas.List.{get_or_past}
use Rattle.std.proofs.lemmas.Bool.{cases_Bool, cases_eq}
use Rattle.lawful.specs.Awards.{AwardSet}
use Rattle.market.specs.Sharing.{shares_of}
use Rattle.market.proofs.Shares.{length_shares}
use Rattle.outcome.specs.Entries.{Entries, some_bids}
use Rattle.outcome.specs.Groups.{total}
use Rattle.outcome.specs.Outcome.{Outcome, sweep, claims, segment, segments_below}
use Rattle.outcome.proofs.Claims.{claims_long}
use Rattle.outcome.proofs.Segments.{at_same, at_other}

-- Of a segment's shares none is beyond the grids.
pub given_outside : (e : Entries) (got : ℕ → ℕ) (b q g : ℕ) → 16 ≤ g → get_or (shares_of q (claims e got b)) g 0 ≡ 0
given_outside e got b q g outside =
    let long = length_shares q (sum (claims e got b)) 0 (claims e got b) in
    get_or_past (shares_of q (claims e got b)) g 0 (omega (arith, long, claims_long e got b 16 0))

module _ (A : AwardSet) (e : Entries) (b : ℕ) (o : Outcome) where
  -- what the segment at b takes
  abbrev taken : ℕ
  taken = total (sweep A e (total o.award + sum (claims e o.got b)) o.next (8 * suc b - o.next) (record { award = o.award; price = 0 })).award - total o.award

  -- A segment gives nothing beyond the grids.
  segment_got_outside : (g : ℕ) → 16 ≤ g → o.got g ≡ 0 → (segment A e b o).got g ≡ 0
  segment_got_outside g outside before = omega (arith, before, given_outside e o.got b taken g outside)

  -- A segment shares nothing beyond the grids.
  segment_share_outside : (c g : ℕ) → 16 ≤ g → o.share c g ≡ 0 → (segment A e b o).share c g ≡ 0
  segment_share_outside c g outside before =
      let given = λ (k : ℕ). get_or (shares_of taken (claims e o.got b)) k 0 in
      elim (cases_eq c b) [
        | inl same ↦ rw same (ap (λ f. f g) (at_same b given o.share) ∙ given_outside e o.got b taken g outside)
        | inr other ↦ ap (λ f. f g) (at_other b given o.share c other) ∙ before
      ]

-- Beyond the grids nothing is got.
pub got_outside : (A : AwardSet) (e : Entries) (n g : ℕ) → 16 ≤ g → (segments_below A e n).got g ≡ 0
unfolding segments_below
got_outside A e zero g outside = refl
got_outside A e (suc b) g outside =
    elim (cases_Bool (some_bids e b)) [
      | inl some ↦ rw some (segment_got_outside A e b (segments_below A e b) g outside (got_outside A e b g outside))
      | inr none ↦ rw none (got_outside A e b g outside)
    ]

-- Beyond the grids nobody has a share.
pub share_outside : (A : AwardSet) (e : Entries) (n b g : ℕ) → 16 ≤ g → (segments_below A e n).share b g ≡ 0
unfolding segments_below
share_outside A e zero b g outside = refl
share_outside A e (suc n) b g outside =
    elim (cases_Bool (some_bids e n)) [
      | inl some ↦ rw some (segment_share_outside A e n (segments_below A e n) b g outside (share_outside A e n b g outside))
      | inr none ↦ rw none (share_outside A e n b g outside)
    ]

-- The tables of a clearing declare exactly what clearing yields.
use Rattle.std.proofs.Common.{◌≡◌, ℕ, ◌<◌, ◌≤◌, true, false, ltb, length, get_or, sym, refl, ap, ◌∙◌, inl, inr, arith}
use mathlib.Core.Path.{fun_ext}
use lib.ListN.{get_or-replicate}
use Rattle.std.proofs.lemmas.List.{get_or-take}
use Rattle.std.proofs.lemmas.Bool.{cases_Bool, cases_lt, cond-true, cond-false, lt-ltb, le-ltb, both_ways}
use Rattle.lawful.specs.Awards.{AwardSet}
use Rattle.outcome.specs.Entries.{Entries, Ranged, some_bids}
use Rattle.outcome.specs.Laws.{SoundSums}
use Rattle.outcome.specs.Outcome.{Outcome, outcome}
use Rattle.outcome.proofs.Bids.{bid_le}
use Rattle.clearing.specs.Declaration.{SegmentOf, Declares, blank_segment}
use Rattle.clearing.specs.declared.points.Segment.{Segment}
use Rattle.clearing.specs.declared.points.Cleared.{Cleared}
use Rattle.book.specs.Views.{declared}
use Rattle.book.proofs.Outside.{got_outside, share_outside}
use Rattle.day.specs.Shown.{among_grids, segment_at, segments_of, declaration_of}
use Rattle.day.proofs.SegmentRows.{row_at, Rows, declared_rows, row_count, no_row, segment_at_row}

-- Figures that agree for each grid, and are 0 beyond them, agree.
pub among_grids_is : (figures : ℕ → ℕ) (xs : _) → ((g : ℕ) → g < 16 → get_or xs g 0 ≡ figures g) → ((g : ℕ) → 16 ≤ g → figures g ≡ 0) → among_grids xs ≡ figures
among_grids_is figures xs inside outside = fun_ext each
  where
    each : (g : ℕ) → among_grids xs g ≡ figures g
    each g =
        elim (cases_lt g 16) [
          | inl l ↦ cond-true (ltb g 16) (get_or xs g 0) 0 (lt-ltb g 16 l) ∙ inside g l
          | inr l ↦ cond-false (ltb g 16) (get_or xs g 0) 0 (le-ltb g 16 l) ∙ sym (outside g l)
        ]

module _ (A : AwardSet) (e : Entries) (c : Cleared) (ranged : Ranged e) (sums : SoundSums e (outcome A e)) (d : Declares e 200001 (outcome A e) c) where
  abbrev o : Outcome
  o = outcome A e

  rows : Rows e (segments_of c)
  rows = declared_rows e o c d

  -- The rows cut off at the count are rows of the table.
  row : (k : ℕ) → k < length (segments_of c) → row_at (segments_of c) k ≡ row_at c.segments k
  row k l = get_or-take c.count c.segments k blank_segment (omega (arith, row_count e o c d))

  -- At a bid that some grid makes stands the segment of the outcome.
  segment_there : (b : ℕ) → some_bids e b ≡ true → SegmentOf e o (segment_at (segments_of c) b) × ((segment_at (segments_of c) b).bid ≡ b)
  segment_there b some =
      let h = rows.all b (bid_le e ranged b some) some in
      let is = segment_at_row (segments_of c) rows.rising h.0 h.1 in
      let here : segment_at (segments_of c) b ≡ row_at (segments_of c) h.0 = ap (λ x. segment_at (segments_of c) x) (sym h.2) ∙ is in
      (rw (here ∙ row h.0 h.1) (d.each h.0 blank_segment (omega (arith, row_count e o c d, h.1))).0, ap (λ s. s.bid) here ∙ h.2)

  -- At a bid that nobody makes stands no segment.
  segment_not_there : (b : ℕ) → some_bids e b ≡ false → segment_at (segments_of c) b ≡ blank_segment
  segment_not_there b none = no_row (segments_of c) b (λ k l same. both_ways (some_bids e b) none (sym (ap (some_bids e) same) ∙ rows.bidden k l))

  -- A figure of the segments by bid is that of the outcome.
  figure_is : (read : Segment → ℕ) (figure : ℕ → ℕ) → ((s : Segment) → SegmentOf e o s → read s ≡ figure s.bid) → read blank_segment ≡ 0 → ((b : ℕ) → some_bids e b ≡ false → figure b ≡ 0) → (λ (b : ℕ). read (segment_at (segments_of c) b)) ≡ figure
  figure_is read figure there blank none = fun_ext each
    where
      each : (b : ℕ) → read (segment_at (segments_of c) b) ≡ figure b
      each b =
          elim (cases_Bool (some_bids e b)) [
            | inl some ↦ let h = segment_there b some in there (segment_at (segments_of c) b) h.0 ∙ ap figure h.1
            | inr no-bid ↦ ap read (segment_not_there b no-bid) ∙ blank ∙ sym (none b no-bid)
          ]

  share_is : (b : ℕ) → among_grids (segment_at (segments_of c) b).shares ≡ o.share b
  share_is b =
      elim (cases_Bool (some_bids e b)) [
        | inl some ↦
            let h = segment_there b some in
            among_grids_is (o.share b) (segment_at (segments_of c) b).shares (λ g l. h.0.shares g l ∙ ap (λ x. o.share x g) h.1) (λ g l. share_outside A e 200001 b g l)
        | inr no-bid ↦
            among_grids_is (o.share b) (segment_at (segments_of c) b).shares
            (λ g l. ap (λ s. get_or s.shares g 0) (segment_not_there b no-bid) ∙ get_or-replicate 16 g 0 0 l ∙ sym ((sums.none b no-bid).1.1 g))
            (λ g l. share_outside A e 200001 b g l)
      ]

  -- The tables declare exactly what clearing yields.
  pub tables_declare : declaration_of c ≡ declared (outcome A e)
  tables_declare =
      let award : (λ (p : ℕ). get_or c.awards p 0) ≡ o.award = fun_ext d.awards in
      let got = among_grids_is o.got c.got d.got (λ g l. got_outside A e 200001 g l) in
      let quantity = figure_is (λ s. s.quantity) o.quantity (λ s h. h.quantity) refl (λ b none. (sums.none b none).0) in
      let price = figure_is (λ s. s.price) o.price (λ s h. h.price) refl (λ b none. (sums.none b none).1.0) in
      let share : (λ (b : ℕ). among_grids (segment_at (segments_of c) b).shares) ≡ o.share = fun_ext share_is in
      λ i. record { award = award i; got = got i; quantity = quantity i; price = price i; share = share i }

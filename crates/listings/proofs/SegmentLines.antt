-- The lines of all bids are those of the rows.
use Rattle.std.proofs.Common.{◌≡◌, ℕ, suc, ◌<◌, ◌≤◌, eqb, List, [], ◌∷◌, ◌++◌, length, get_or, sym, refl, ap, ◌∙◌, arith}
use Rattle.std.proofs.lemmas.Bool.{cond-true, cond-false, eq-eqb, ne_eqb}
use Rattle.std.proofs.lemmas.List.{get_or_default}
use Rattle.lines.specs.Lines.{line_of}
use Rattle.clearing.specs.Declaration.{blank_segment}
use Rattle.clearing.specs.declared.points.Segment.{Segment}
use Rattle.day.specs.Shown.{segment_at}
use Rattle.day.proofs.SegmentRows.{row_at, Rising, no_row}
use Rattle.listings.specs.Listings.{segment_text, lines_to}
use Rattle.listings.specs.Rows.{text_of, row_text}
use Rattle.listings.proofs.Texts.{above_none}
use Rattle.listings.proofs.LinesTo.{lines_none, lines_empty, lines_first, lines_front}

-- the line of a bid
abbrev pub bid_text : List Segment → ℕ → List ℕ
bid_text segments b = segment_text b (segment_at segments b).quantity (segment_at segments b).price

-- A bid of no row has no line.
no_text : (segments : List Segment) (b : ℕ) → ((k : ℕ) → k < length segments → (row_at segments k).bid ≡ b → ⊥) → bid_text segments b ≡ []
no_text segments b none =
    let s = segment_at segments b in
    above_none s.quantity (line_of 83 (b ∷ s.quantity ∷ s.price ∷ [])) (ap (λ (x : Segment). x.quantity) (no_row segments b none))

-- The lines of all bids below n are those of the rows, where these rise and have bids below n.
pub lines_over_rows :
    (n : ℕ) (segments : List Segment) → Rising segments → ((k : ℕ) → k < length segments → (row_at segments k).bid < n)
    → lines_to n (bid_text segments) ≡ lines_to (length segments) (row_text segments)
lines_over_rows n [] rising below = lines_empty n (bid_text []) (λ k l. refl) ∙ sym (lines_none (row_text []))
lines_over_rows n (s ∷ ss) rising below =
    lines_first n s.bid (bid_text (s ∷ ss)) (bid_text ss) (below 0 (omega arith)) before upto behind
    ∙ (λ i. at_first i ++ lines_over_rows n ss (λ i j less l. rising (suc i) (suc j) (omega arith) (omega arith)) (λ k l. below (suc k) (omega arith)) i)
    ∙ sym (lines_front (length ss) (row_text (s ∷ ss)))
  where
    later : (k : ℕ) → k < length ss → s.bid < (row_at ss k).bid
    later k l = rising 0 (suc k) (omega arith) (omega arith)

    upto : (b : ℕ) → b ≤ s.bid → bid_text ss b ≡ []
    upto b low = no_text ss b (λ k l same. let above = later k l in omega arith)

    passes : (b : ℕ) → (s.bid ≡ b → ⊥) → segment_at (s ∷ ss) b ≡ segment_at ss b
    passes b other = cond-false (eqb s.bid b) s (segment_at ss b) (ne_eqb s.bid b other)

    behind : (b : ℕ) → s.bid < b → bid_text (s ∷ ss) b ≡ bid_text ss b
    behind b high = ap (λ (x : Segment). segment_text b x.quantity x.price) (passes b (λ same. omega arith))

    before : (b : ℕ) → b < s.bid → bid_text (s ∷ ss) b ≡ []
    before b low = ap (λ (x : Segment). segment_text b x.quantity x.price) (passes b (λ same. omega arith)) ∙ upto b (omega arith)

    at_first : bid_text (s ∷ ss) s.bid ≡ text_of s
    at_first = ap (λ (x : Segment). segment_text s.bid x.quantity x.price) (cond-true (eqb s.bid s.bid) s (segment_at ss s.bid) (eq-eqb s.bid s.bid refl))

-- The line of a row is the same, whatever stands where there is none.
pub row_text_any : (segments : List Segment) (i : ℕ) (d : Segment) → i < length segments → text_of (get_or segments i d) ≡ row_text segments i
row_text_any segments i d l = ap text_of (get_or_default segments i d blank_segment l)

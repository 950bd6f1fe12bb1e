-- The lines of segments that stand in rows.
use Rattle.std.specs.Prelude.{ℕ, List, slice_index_or}
use Rattle.clearing.specs.Declaration.{blank_segment}
use Rattle.clearing.specs.declared.points.Segment.{Segment}
use Rattle.listings.specs.Listings.{segment_text}

abbrev pub text_of : Segment → List ℕ
text_of s = segment_text s.bid s.quantity s.price

-- the line of a row
abbrev pub row_text : List Segment → ℕ → List ℕ
row_text segments k = text_of (slice_index_or segments k blank_segment)

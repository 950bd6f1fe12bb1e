-- How long a line of a listing is, and where there is none.
use Rattle.std.proofs.Common.{◌≡◌, ℕ, ◌+◌, ◌*◌, ◌/◌, ◌%◌, ◌<◌, ◌≤◌, ltb, List, [], ◌∷◌, length, sym, ap, ◌∙◌, arith, length-append}
use Rattle.std.proofs.lemmas.Bool.{cond-true, cond-false, cond_both, lt-ltb, le-ltb}
use Rattle.lines.specs.Lines.{field, fields_of, line_of, written}
use Rattle.lines.proofs.Digits.{digits_few, digits_long}
use Rattle.lines.proofs.Lines.{length_line_of}
use Rattle.lines.proofs.Written.{written_none}
use Rattle.listings.specs.Listings.{line_above, money_text, branch_line}

-- A line of two numbers has at most 44 bytes, one of three at most 65.
pub two_long : (letter a b : ℕ) → length (line_of letter (a ∷ b ∷ [])) ≤ 44
two_long letter a b =
    omega (arith, length_line_of letter (a ∷ b ∷ []), length-append (field a) (fields_of (b ∷ [])), length-append (field b) [], digits_few a, digits_few b)

pub three_long : (letter a b c : ℕ) → length (line_of letter (a ∷ b ∷ c ∷ [])) ≤ 65
three_long letter a b c =
    omega (arith, length_line_of letter (a ∷ b ∷ c ∷ []), length-append (field a) (fields_of (b ∷ c ∷ [])), length-append (field b) (fields_of (c ∷ [])), length-append (field c) [], digits_few a, digits_few b, digits_few c)

-- A line of a unit, a band and an award has at most 18 bytes.
pub award_long : (letter p a : ℕ) → p < 256 → a < 4294967296 → length (line_of letter (p / 4 ∷ p % 4 ∷ a ∷ [])) ≤ 18
award_long letter p a place small =
    let unit = p / 4 in
    let band = p % 4 in
    omega (
      arith,
      length_line_of letter (unit ∷ band ∷ a ∷ []),
      length-append (field unit) (fields_of (band ∷ a ∷ [])),
      length-append (field band) (fields_of (a ∷ [])),
      length-append (field a) [],
      digits_long 2 unit (omega arith) (omega arith),
      digits_long 1 band (omega arith) (omega arith),
      digits_long 10 a (omega arith) (omega arith),
    )

-- Where there is no quantity there is no line, and else there is.
pub above_none : (q : ℕ) (line : List ℕ) → q ≡ 0 → line_above q line ≡ []
above_none q line none = cond-false (ltb 0 q) line [] (le-ltb 0 q (omega (arith, none)))

pub above_some : (q : ℕ) (line : List ℕ) → 0 < q → line_above q line ≡ line
above_some q line some = cond-true (ltb 0 q) line [] (lt-ltb 0 q some)

-- Either is no longer than the line.
pub above_long : (q k : ℕ) (line : List ℕ) → length line ≤ k → length (line_above q line) ≤ k
above_long q k line short = cond_both (ltb 0 q) line [] (λ xs. length xs ≤ k) (λ _. short) (λ _. omega arith)

-- Where there is no line the place and the buffer stay.
pub none_end : (at q : ℕ) (line : List ℕ) → q ≡ 0 → at ≡ at + length (line_above q line)
none_end at q line none = omega (arith, ap length (above_none q line none))

pub none_bytes : (b : List ℕ) (at q : ℕ) (line : List ℕ) → q ≡ 0 → b ≡ written b at (line_above q line)
none_bytes b at q line none = sym (ap (written b at) (above_none q line none) ∙ written_none b at)

-- Money in whole fen and fortieths is written by both.
pub money_some : (letter who fen rest : ℕ) → rest < 40 → 0 < fen + rest → money_text letter who (fen * 40 + rest) ≡ line_of letter (who ∷ fen ∷ rest ∷ [])
money_some letter who fen rest small some =
    let m = fen * 40 + rest in
    above_some m (line_of letter (who ∷ m / 40 ∷ m % 40 ∷ [])) (omega arith)
    ∙ ap (λ (k : ℕ). line_of letter (who ∷ k ∷ m % 40 ∷ [])) {x = m / 40} {y = fen} (omega arith)
    ∙ ap (λ (k : ℕ). line_of letter (who ∷ fen ∷ k ∷ [])) {x = m % 40} {y = rest} (omega arith)

pub branch_parts : (fen rest : ℕ) → rest < 40 → branch_line (fen * 40 + rest) ≡ line_of 82 (fen ∷ rest ∷ [])
branch_parts fen rest small =
    let m = fen * 40 + rest in
    ap (λ (k : ℕ). line_of 82 (k ∷ m % 40 ∷ [])) {x = m / 40} {y = fen} (omega arith) ∙ ap (λ (k : ℕ). line_of 82 (fen ∷ k ∷ [])) {x = m % 40} {y = rest} (omega arith)

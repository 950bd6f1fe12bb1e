-- How long a line is, and how it is written.
use Rattle.std.proofs.Common.{◌≡◌, ℕ, ◌+◌, ◌-◌, ◌/◌, ◌%◌, ◌^◌, ◌<◌, ◌≤◌, Bool, true, false, cond, leb, List, [], ◌∷◌, ◌++◌, length, get_or, drop, set, Some, None, sum_by, Option, sym, refl, ap, ◌∙◌, subst, arith, length-append}
use Rattle.std.proofs.lemmas.List.{at_drop_more, at_drop_all}
use Rattle.std.proofs.lemmas.List.Sums.{sum_by-cons}
use Rattle.std.proofs.lemmas.Bool.{le-leb, lt-leb, cond-true, cond-false}
use Rattle.lines.specs.Lines.{digits, field, fields_of, line_of, written, WorkedLine}
use Rattle.lines.proofs.Digits.{digits_one, digits_more, length_digits_more}
use Rattle.lines.proofs.Written.{written_then, written_one, written_last, length_written}

-- The fields are as long as their digits and a space before each.
pub length_fields_of : (ns : List ℕ) → length (fields_of ns) ≡ sum_by (λ n. 1 + length (digits n)) ns
length_fields_of [] = refl
length_fields_of (n ∷ ns) = omega (arith, length-append (field n) (fields_of ns), length_fields_of ns, sum_by-cons (λ m. 1 + length (digits m)) n ns)

-- A line has two bytes more than its fields.
pub length_line_of : (letter : ℕ) (ns : List ℕ) → length (line_of letter ns) ≡ 2 + length (fields_of ns)
unfolding line_of
length_line_of letter ns = omega (arith, length-append (fields_of ns) (10 ∷ []))

pub line_long : (letter : ℕ) (ns : List ℕ) → length (line_of letter ns) ≡ 2 + sum_by (λ n. 1 + length (digits n)) ns
line_long letter ns = length_line_of letter ns ∙ ap (λ (k : ℕ). 2 + k) (length_fields_of ns)

-- The fields from a place on are the one there and those behind it.
pub fields_left : (ns : List ℕ) (i : ℕ) → i < length ns → fields_of (drop i ns) ≡ field (get_or ns i 0) ++ fields_of (drop (i + 1) ns)
fields_left ns i within = at_drop_more fields_of ns i 0 within

pub length_fields_left : (ns : List ℕ) (i : ℕ) → i < length ns → length (fields_of (drop i ns)) ≡ 1 + length (digits (get_or ns i 0)) + length (fields_of (drop (i + 1) ns))
length_fields_left ns i within = omega (arith, ap length (fields_left ns i within), length-append (field (get_or ns i 0)) (fields_of (drop (i + 1) ns)))

-- Behind the last field there is none.
pub fields_none : (ns : List ℕ) (i : ℕ) → length ns ≤ i → fields_of (drop i ns) ≡ []
fields_none ns i past = at_drop_all fields_of ns i past

-- An end that leaves room is answered, and one past the limit is not.
pub end_within : (end limit room : ℕ) → end + room ≡ limit → Some (limit - room) ≡ cond (leb end limit) (Some end) None
end_within end limit room fit = ap Some (omega arith) ∙ sym (cond-true (leb end limit) (Some end) None (le-leb end limit (omega arith)))

pub end_past : (end limit : ℕ) → limit < end → None ≡ cond (leb end limit) (Some end) None
end_past end limit past = sym (cond-false (leb end limit) (Some end) None (lt-leb end limit past))

-- What a place answers for the fields and two bytes more it answers for the line.
pub end_of_line : (o : Option ℕ) (at limit letter : ℕ) (ns : List ℕ) → o ≡ cond (leb (at + (2 + length (fields_of ns))) limit) (Some (at + (2 + length (fields_of ns)))) None → o ≡ cond (leb (at + length (line_of letter ns)) limit) (Some (at + length (line_of letter ns))) None
end_of_line o at limit letter ns answer = subst (λ (k : ℕ). o ≡ cond (leb (at + k) limit) (Some (at + k)) None) (sym (length_line_of letter ns)) answer

-- A place is answered just where the test holds.
pub answered_true : (t : Bool) (end e : ℕ) → Some end ≡ cond t (Some e) None → t ≡ true
answered_true true end e is = refl
answered_true false end e is = absurd (let z : ◌≡◌ {A = ℕ} 0 1 = cc in let no : ⊥ = omega arith in no)

pub declined_false : (t : Bool) (e : ℕ) → None ≡ cond t (Some e) None → t ≡ false
declined_false true e is = absurd (let z : ◌≡◌ {A = ℕ} 0 1 = cc in let no : ⊥ = omega arith in no)
declined_false false e is = refl

-- The last digit of a number is set, and then the digits of its tenth are written in front of it.
pub last_digit_written : (b : List ℕ) (at place n : ℕ) → 10 ≤ n → n < 2 ^ 64 → place ≡ at + length (digits n) → place ≤ length b → written (set b (place - 1) (48 + n % 10)) at (digits (n / 10)) ≡ written b at (digits n)
last_digit_written b at place n large small ends room =
    let long = length_digits_more n large small in
    ap (λ (p : ℕ). written (set b p (48 + n % 10)) at (digits (n / 10))) {x = place - 1} {y = at + length (digits (n / 10))} (omega arith)
    ∙ written_last b at (digits (n / 10)) (48 + n % 10) (omega arith)
    ∙ ap (written b at) (sym (digits_more n large small))

-- A number below ten is written by setting one byte.
pub first_digit_written : (b : List ℕ) (at n : ℕ) → n < 10 → at < length b → set b at (48 + n) ≡ written b at (digits n)
first_digit_written b at n low room = written_one b at (48 + n) room ∙ ap (written b at) (sym (digits_one n low))

-- One byte set and bytes written behind it are written as one.
pub byte_then_written : (b : List ℕ) (at x : ℕ) (xs : List ℕ) → at < length b → written (set b at x) (at + 1) xs ≡ written b at (x ∷ xs)
byte_then_written b at x xs room = ap (λ w. written w (at + 1) xs) (written_one b at x room) ∙ written_then b at (x ∷ []) xs (omega arith)

-- The letter, the fields and the last byte make the line.
pub line_written : (b : List ℕ) (at letter last : ℕ) (ns : List ℕ) → last ≡ at + 1 + length (fields_of ns) → last < length b → set (written (set b at letter) (at + 1) (fields_of ns)) last 10 ≡ written b at (line_of letter ns)
unfolding line_of
line_written b at letter last ns ends room =
    let front = letter ∷ fields_of ns in
    let held = length_written b at front (omega arith) in
    ap (λ w. set w last 10) (byte_then_written b at letter (fields_of ns) (omega arith))
    ∙ written_one (written b at front) last 10 (omega arith)
    ∙ ap (λ (p : ℕ). written (written b at front) p (10 ∷ [])) {x = last} {y = at + length front} (omega arith)
    ∙ written_then b at front (10 ∷ []) (omega arith)

-- Where the page and the fields that are left make the letter and all fields behind what was held, the next field ends within the line.
pub next_within :
    (held page : List ℕ) (letter : ℕ) (ns : List ℕ) (i : ℕ) → page ++ fields_of (drop i ns) ≡ held ++ (letter ∷ fields_of ns) → i < length ns
    → length page + length (field (get_or ns i 0)) ≤ length held + length (line_of letter ns)
next_within held page letter ns i made within =
    let rest = fields_of (drop (i + 1) ns) in
    omega (
      arith,
      ap length made,
      length-append page (fields_of (drop i ns)),
      ap length (at_drop_more fields_of ns i 0 within),
      length-append (field (get_or ns i 0)) rest,
      length-append held (letter ∷ fields_of ns),
      length_line_of letter ns,
    )

-- The line worked by hand.
pub worked_line : WorkedLine
unfolding line_of digits
worked_line = refl

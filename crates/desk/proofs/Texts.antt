-- The text of a day, step by step.
use Rattle.std.proofs.Common.{◌≡◌, ℕ, zero, suc, ◌+◌, ◌-◌, ◌<◌, Bool, false, cond, eqb, List, ◌++◌, length, take, drop, is_ok, IfOk, Some, None, Ok, Err, Option, Result, sym, refl, ap, ◌∙◌, inl, inr, append_assoc, arith}
use Rattle.std.proofs.lemmas.List.{take_rest}
use Rattle.std.proofs.lemmas.Bool.{cases_lt, cond-true, cond-false, eq-eqb, ne_eqb, eqb-false}
use Rattle.market.specs.Maxima.{point_count}
use Rattle.market.specs.declared.refusals.Refusal.{Refusal}
use Rattle.lines.specs.Lines.{written}
use Rattle.lines.proofs.Written.{take_written}
use Rattle.sheet.specs.Layout.{header_of, strip_bytes}
use Rattle.loads.specs.Loads.{Desk}
use Rattle.desk.proofs.Rows.{some_none, some_same}
use Rattle.desk.specs.Texts.{read_of, then_text, closing_text, strip_text, sheet_text, sheet_desk, strip_outcome, sheet_outcome, sheets_text, input_text}

-- The bytes that were written stand at the start of the buffer.
pub front_written : (b text out : List ℕ) (n : ℕ) → out ≡ written b 0 text → n ≡ length text → take n out ≡ text
front_written b text out n bytes long =
    ap (λ (k : ℕ). take k out) {x = n} {y = 0 + length text} (omega (arith, long)) ∙ ap (take (0 + length text)) bytes ∙ take_written b 0 text (omega arith)

-- Bytes that were added where there was memory.
pub added_made : {T E : Type 0} (r : Result T E) (was now more text : List ℕ) → now ≡ cond (is_ok r) (was ++ more) was → more ≡ text → IfOk r (λ _. now ≡ was ++ text)
added_made (Ok x) was now more text items same = items ∙ ap (λ (t : List ℕ). was ++ t) same
added_made (Err e) was now more text items same = tt

-- Where the day goes on, the text goes on, and the bytes of the step were read.
goes_then : (e : Option (Refusal × ℕ)) (k n : ℕ) (more ended : List ℕ) → Some n ≡ read_of e k → then_text e more ended ≡ more
goes_then None k n more ended on = refl
goes_then (Some e) k n more ended on = absurd (some_none n on)

goes_read : (e : Option (Refusal × ℕ)) (k n : ℕ) → Some n ≡ read_of e k → n ≡ k
goes_read None k n on = some_same n k on
goes_read (Some e) k n on = absurd (some_none n on)

ends_then : (e : Option (Refusal × ℕ)) (k : ℕ) (more ended : List ℕ) → None ≡ read_of e k → then_text e more ended ≡ ended
ends_then None k more ended on = absurd (some_none k (sym on))
ends_then (Some e) k more ended on = refl

-- No byte left: the accounts.
pub sheets_none : (n : ℕ) (d : Desk) (s : List ℕ) → length s ≡ 0 → sheets_text n d s ≡ closing_text d
unfolding sheets_text
sheets_none zero d s none = refl
sheets_none (suc n) d s none = cond-true (eqb (length s) 0) (closing_text d)
    (sheet_text (sheet_outcome s d) ++ then_text (sheet_outcome s d).1 (sheets_text n (sheet_desk (sheet_outcome s d)) (drop (header_of s).length s)) (closing_text (sheet_desk (sheet_outcome s d))))
    (eq-eqb (length s) 0 none)

-- A byte left: a sheet, and then what it brings.
sheets_some : (n : ℕ) (d : Desk) (s : List ℕ) → 0 < length s → sheets_text (suc n) d s ≡ sheet_text (sheet_outcome s d) ++ then_text (sheet_outcome s d).1 (sheets_text n (sheet_desk (sheet_outcome s d)) (drop (header_of s).length s)) (closing_text (sheet_desk (sheet_outcome s d)))
unfolding sheets_text
sheets_some n d s some = cond-false (eqb (length s) 0) (closing_text d)
    (sheet_text (sheet_outcome s d) ++ then_text (sheet_outcome s d).1 (sheets_text n (sheet_desk (sheet_outcome s d)) (drop (header_of s).length s)) (closing_text (sheet_desk (sheet_outcome s d))))
    (ne_eqb (length s) 0 (λ is. omega (arith, is, some)))

-- A step that goes on.
pub sheets_more :
    (whole before after : List ℕ) (n m read : ℕ) (d x : Desk) (s : List ℕ) → whole ≡ before ++ sheets_text m d s → m ≡ suc n → 0 < length s
    → after ≡ before ++ sheet_text (sheet_outcome s d) → x ≡ sheet_desk (sheet_outcome s d) → Some read ≡ read_of (sheet_outcome s d).1 (header_of s).length
    → whole ≡ after ++ sheets_text n x (drop read s)
sheets_more whole before after n m read d x s is more some text shows reads =
    let o = sheet_outcome s d in
    let k = (header_of s).length in
    is
    ∙ ap (λ (j : ℕ). before ++ sheets_text j d s) more
    ∙ ap (λ (t : List ℕ). before ++ t) (sheets_some n d s some ∙ ap (λ (t : List ℕ). sheet_text o ++ t) (goes_then o.1 k read (sheets_text n (sheet_desk o) (drop k s)) (closing_text (sheet_desk o)) reads))
    ∙ sym (append_assoc before (sheet_text o) (sheets_text n (sheet_desk o) (drop k s)))
    ∙ (λ i. sym text i ++ sheets_text n (sym shows i) (drop (sym (goes_read o.1 k read reads) i) s))

-- A step that ends it.
pub sheets_ended :
    (whole before after : List ℕ) (n m : ℕ) (d x : Desk) (s : List ℕ) → whole ≡ before ++ sheets_text m d s → m ≡ suc n → 0 < length s
    → after ≡ before ++ sheet_text (sheet_outcome s d) → x ≡ sheet_desk (sheet_outcome s d) → None ≡ read_of (sheet_outcome s d).1 (header_of s).length
    → after ++ closing_text x ≡ whole
sheets_ended whole before after n m d x s is more some text shows on =
    let o = sheet_outcome s d in
    let k = (header_of s).length in
    (λ i. text i ++ closing_text (shows i))
    ∙ append_assoc before (sheet_text o) (closing_text (sheet_desk o))
    ∙ ap (λ (t : List ℕ). before ++ t) (sym (sheets_some n d s some ∙ ap (λ (t : List ℕ). sheet_text o ++ t) (ends_then o.1 k (sheets_text n (sheet_desk o) (drop k s)) (closing_text (sheet_desk o)) on)))
    ∙ ap (λ (j : ℕ). before ++ sheets_text j d s) (sym more)
    ∙ sym is

-- No byte, or no sheet, is left.
pub sheets_over : (whole before : List ℕ) (n : ℕ) (d : Desk) (s : List ℕ) → whole ≡ before ++ sheets_text n d s → length s ≡ 0 → before ++ closing_text d ≡ whole
sheets_over whole before n d s is none = ap (λ (t : List ℕ). before ++ t) (sym (sheets_none n d s none)) ∙ sym is

pub sheets_all : (whole before : List ℕ) (n : ℕ) (d : Desk) (s : List ℕ) → whole ≡ before ++ sheets_text n d s → n ≡ 0 → before ++ closing_text d ≡ whole
unfolding sheets_text
sheets_all whole before n d s is none = sym (is ∙ ap (λ (k : ℕ). before ++ sheets_text k d s) none)

-- A strip that goes on, with what the sheets behind it bring.
pub input_more :
    (before after whole : List ℕ) (read : ℕ) (d x y : Desk) (s : List ℕ) → after ≡ before ++ strip_text (strip_outcome s d) → x ≡ (strip_outcome s d).0 → Some read ≡ read_of (strip_outcome s d).1 strip_bytes
    → whole ++ closing_text y ≡ after ++ sheets_text (suc point_count) x (drop read s)
    → whole ++ closing_text y ≡ before ++ input_text d s
unfolding input_text
input_more before after whole read d x y s text shows reads is =
    let o = strip_outcome s d in
    is
    ∙ (λ i. text i ++ sheets_text (suc point_count) (shows i) (drop (goes_read o.1 strip_bytes read reads i) s))
    ∙ append_assoc before (strip_text o) (sheets_text (suc point_count) o.0 (drop strip_bytes s))
    ∙ ap (λ (t : List ℕ). before ++ (strip_text o ++ t)) (sym (goes_then o.1 strip_bytes read (sheets_text (suc point_count) o.0 (drop strip_bytes s)) (closing_text o.0) reads))

-- A strip that a refusal ended.
pub input_ended :
    (before after : List ℕ) (d x : Desk) (s : List ℕ) → after ≡ before ++ strip_text (strip_outcome s d) → x ≡ (strip_outcome s d).0 → None ≡ read_of (strip_outcome s d).1 strip_bytes
    → after ++ closing_text x ≡ before ++ input_text d s
unfolding input_text
input_ended before after d x s text shows on =
    let o = strip_outcome s d in
    (λ i. text i ++ closing_text (shows i))
    ∙ append_assoc before (strip_text o) (closing_text o.0)
    ∙ ap (λ (t : List ℕ). before ++ (strip_text o ++ t)) (sym (ends_then o.1 strip_bytes (sheets_text (suc point_count) o.0 (drop strip_bytes s)) (closing_text o.0) on))

-- The same where there was memory for what the sheets bring.
pub input_made :
    {T E : Type 0} (r : Result T E) (before after whole : List ℕ) (read : ℕ) (d x y : Desk) (s : List ℕ) → after ≡ before ++ strip_text (strip_outcome s d) → x ≡ (strip_outcome s d).0
    → Some read ≡ read_of (strip_outcome s d).1 strip_bytes
    → IfOk r (λ _. whole ++ closing_text y ≡ after ++ sheets_text (suc point_count) x (take (length s - read) (drop read s)))
    → IfOk r (λ _. whole ++ closing_text y ≡ before ++ input_text d s)
input_made (Ok _) before after whole read d x y s text shows reads is =
    input_more before after whole read d x y s text shows reads (is ∙ ap (λ (t : List ℕ). after ++ sheets_text (suc point_count) x t) (take_rest s read))
input_made (Err e) before after whole read d x y s text shows reads is = tt

-- Bytes are left where they are not none.
pub some_left : (n : ℕ) (empty : Bool) → empty ≡ eqb n 0 → empty ≡ false → 0 < n
some_left n empty test is = elim (cases_lt 0 n) [
  | inl some ↦ some
  | inr none ↦ absurd (eqb-false n 0 (sym test ∙ is) (omega (arith, none)))
]

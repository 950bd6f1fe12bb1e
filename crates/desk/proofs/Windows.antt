-- A window that has the bytes of the sheet at its start decides the sheet, whatever comes behind it.
use Rattle.std.proofs.Common.{◌≡◌, ℕ, ◌+◌, ◌-◌, ◌*◌, ◌≤◌, Bool, true, false, not, ◌||◌, eqb, ltb, List, [], ◌∷◌, ◌++◌, length, take, drop, Some, None, Option, sym, refl, ap, ◌∙◌, inl, inr, arith}
use Rattle.std.proofs.lemmas.List.{take-take, drop-take, take_at, length-take-le, length-append}
use Rattle.std.proofs.lemmas.Bool.{cases_lt, cond-true, cond-false, le-ltb, lt-ltb, or_from, not-false, eqb-true, true≢false}
use Rattle.market.specs.Maxima.{grid_count, unit_count}
use Rattle.market.specs.Refusals.{sheet_refusal}
use Rattle.market.specs.Rows.{row, topmost}
use Rattle.market.specs.declared.refusals.Refusal.{Refusal}
use Rattle.market.specs.declared.refusals.SheetRefusal.TheVariants.{TooShort, BadLayout, OtherPoint}
use Rattle.book.specs.Views.{View}
use Rattle.sheet.specs.Layout.{header_of, against_layout, sheet_bytes, sheet_rows}
use Rattle.sheet.specs.declared.header.Header.{Header}
use Rattle.sheet.proofs.Fields.{header_by_fields}
use Rattle.sheet.proofs.Within.{word16_within}
use Rattle.loads.specs.Loads.{Record, Desk, Outcome, units_in, bids_in, limits_in, units_on, bids_on, limits_on, records_of, load_from, opened_to, either, begun, day_rows, first_refusal, loaded}
use Rattle.loads.proofs.Whole.{body, units_whole, bids_whole, limits_whole}
use Rattle.desk.specs.Texts.{sheet_outcome, needed_bytes}
use Rattle.desk.specs.Steps.{WindowDecides}
use Rattle.desk.proofs.Accepted.{first_laid}

-- The header is read from the first ten bytes.
pub same_header : (s : List ℕ) (n : ℕ) → 10 ≤ n → header_of (take n s) ≡ header_of s
same_header s n l =
    header_by_fields s (word16_within s n 0 (omega (arith, l))) (word16_within s n 2 (omega (arith, l))) (word16_within s n 4 (omega (arith, l)))
    (word16_within s n 6 (omega (arith, l))) (word16_within s n 8 (omega (arith, l)))

-- The records are read from the bytes behind it.
same_body : (s : List ℕ) (n m : ℕ) → 10 + m ≤ n → body m (take n s) ≡ body m s
same_body s n m l =
    ap (λ (k : ℕ). body m (take k s)) {x = n} {y = 10 + (n - 10)} (omega (arith, l))
    ∙ ap (take m) (drop-take 10 (n - 10) s)
    ∙ take-take m (n - 10) (drop 10 s) (omega (arith, l))

abbrev in_body : Header → List ℕ → List Record
in_body h bytes = units_in h.units bytes ++ (bids_in h.bids (drop (19 * h.units) bytes) ++ limits_in h.limits (drop (19 * h.units + 9 * h.bids) bytes))

records_in_body : (s : List ℕ) (m : ℕ) → 19 * (header_of s).units + 9 * (header_of s).bids + 5 * (header_of s).limits ≤ m → records_of s ≡ in_body (header_of s) (body m s)
records_in_body s m l = λ i. units i ++ (bids i ++ limits i)
  where
    units : units_on (header_of s).units 0 s ≡ units_in (header_of s).units (body m s)
    units = sym (units_whole s m (header_of s).units 0 (omega (arith, l)))

    bids : bids_on (header_of s).bids 0 s ≡ bids_in (header_of s).bids (drop (19 * (header_of s).units) (body m s))
    bids = sym (bids_whole s m (header_of s).bids 0 (19 * (header_of s).units) (omega arith) (omega (arith, l)))

    limits : limits_on (header_of s).limits 0 s ≡ limits_in (header_of s).limits (drop (19 * (header_of s).units + 9 * (header_of s).bids) (body m s))
    limits = sym (limits_whole s m (header_of s).limits 0 (19 * (header_of s).units + 9 * (header_of s).bids) (omega arith) (omega (arith, l)))

same_records : (s : List ℕ) (n : ℕ) → 10 + (19 * (header_of s).units + 9 * (header_of s).bids + 5 * (header_of s).limits) ≤ n → records_of (take n s) ≡ records_of s
same_records s n l =
    let m = 19 * (header_of s).units + 9 * (header_of s).bids + 5 * (header_of s).limits in
    let head = same_header s n (omega (arith, l)) in
    let units = ap (λ (h : Header). h.units) head in
    let bids = ap (λ (h : Header). h.bids) head in
    let limits = ap (λ (h : Header). h.limits) head in
    records_in_body (take n s) m (omega (arith, units, bids, limits))
    ∙ (λ i. in_body (head i) (same_body s n m l i))
    ∙ sym (records_in_body s m (omega arith))

-- Where the bytes are there, the header alone decides.
abbrev head_rows : Header → ℕ → Option Refusal
head_rows h point = topmost (row (against_layout h) (sheet_refusal BadLayout) ∷ row (not (eqb h.point point)) (sheet_refusal OtherPoint) ∷ [])

by_header : (s : List ℕ) (point : ℕ) → 10 ≤ length s → (header_of s).length ≤ length s → topmost (sheet_rows s point) ≡ head_rows (header_of s) point
by_header s point head whole =
    cond-false (ltb (length s) 10 || ltb (length s) (header_of s).length) (Some (sheet_refusal TooShort)) (head_rows (header_of s) point)
    (or_from (ltb (length s) 10) (ltb (length s) (header_of s).length) (le-ltb (length s) 10 head) (le-ltb (length s) (header_of s).length whole))

same_first : (v : View) (s : List ℕ) (n : ℕ) → 10 ≤ n → n ≤ length s → (header_of s).length ≤ n → first_refusal v (take n s) ≡ first_refusal v s
same_first v s n l within whole =
    let head = same_header s n l in
    let long = length-take-le n s within in
    let stated = ap (λ (h : Header). h.length) head in
    let point = v.posted + 1 in
    ap (either (topmost (day_rows v))) (
    by_header (take n s) point (omega (arith, long)) (omega (arith, long, stated))
    ∙ ap (λ (h : Header). head_rows h point) head
    ∙ sym (by_header s point (omega arith) (omega arith))
    )

-- A layout that is kept has the bytes of its records.
last_false : (a b c d : Bool) → (a || b || c || d) ≡ false → d ≡ false
last_false a b c false is = refl
last_false true true true true is = absurd (true≢false is)
last_false true true false true is = absurd (true≢false is)
last_false true false true true is = absurd (true≢false is)
last_false true false false true is = absurd (true≢false is)
last_false false true true true is = absurd (true≢false is)
last_false false true false true is = absurd (true≢false is)
last_false false false true true is = absurd (true≢false is)
last_false false false false true is = absurd (true≢false is)

laid_out : (h : Header) → against_layout h ≡ false → h.length ≡ sheet_bytes h
laid_out h kept =
    let other = last_false (ltb unit_count h.units) (ltb grid_count h.bids) (ltb grid_count h.limits) (not (eqb h.length (sheet_bytes h))) kept in
    eqb-true h.length (sheet_bytes h) (not-false (eqb h.length (sheet_bytes h)) other)

begun_same : (o : Option Refusal) (d : Desk) (x y : Outcome) → (o ≡ None → x ≡ y) → begun o d x ≡ begun o d y
begun_same None d x y same = same refl
begun_same (Some e) d x y same = refl

-- So a sheet within the first n bytes is loaded alike.
pub same_loaded : (L N : ℕ) (s : List ℕ) (n : ℕ) (d : Desk) → 10 ≤ n → n ≤ length s → (header_of s).length ≤ n → loaded L N (take n s) d ≡ loaded L N s d
same_loaded L N s n d l within whole =
    let start : Desk = (d.0, opened_to L N grid_count d.1) in
    ap (λ (o : Option Refusal). begun o d (load_from L N 0 (records_of (take n s)) start)) (same_first d.0 s n l within whole)
    ∙ begun_same (first_refusal d.0 s) d (load_from L N 0 (records_of (take n s)) start) (load_from L N 0 (records_of s) start) (λ none.
    let laid = first_laid d.0 s none in
    let bytes = laid_out (header_of s) laid.layout in
    ap (λ (rs : List Record). load_from L N 0 rs start) (same_records s n (omega (arith, bytes)))
    )

-- A window that has what its sheet needs has its header.
pub needed_header : (s : List ℕ) → needed_bytes s ≤ length s → 10 ≤ length s
needed_header s enough = elim (cases_lt (length s) 10) [
  | inl short ↦ absurd (let no : ⊥ = omega (arith, short, enough, cond-true (ltb (length s) 10) 10 (header_of s).length (lt-ltb (length s) 10 short)) in no)
  | inr long ↦ long
]

pub needed_stated : (s : List ℕ) → 10 ≤ length s → needed_bytes s ≡ (header_of s).length
needed_stated s long = cond-false (ltb (length s) 10) 10 (header_of s).length (le-ltb (length s) 10 long)

pub window_decides : (s : List ℕ) → WindowDecides s
unfolding sheet_outcome
window_decides s rest d enough =
    let long = needed_header s enough in
    let stated = needed_stated s long in
    let window : take (length s) (s ++ rest) ≡ s = take_at s rest (length s) refl in
    let head : header_of (s ++ rest) ≡ header_of s = sym (same_header (s ++ rest) (length s) long) ∙ ap header_of window in
    let same = ap (λ (h : Header). h.length) head in
    let whole : (header_of (s ++ rest)).length ≤ length s = omega (arith, same, stated, enough) in
    let within : length s ≤ length (s ++ rest) = omega (arith, length-append s rest) in (
      sym (same_loaded 0 grid_count (s ++ rest) (length s) d long within whole) ∙ ap (λ (t : List ℕ). loaded 0 grid_count t d) window,
      same,
    )

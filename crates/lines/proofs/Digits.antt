-- The digits of a number are its decimal.
use Rattle.std.proofs.Common.{◌≡◌, ℕ, zero, suc, ◌+◌, ◌/◌, ◌%◌, ◌^◌, ◌<◌, ◌≤◌, ltb, [], ◌∷◌, ◌++◌, length, get_or, decimal, sym, ap, ◌∙◌, subst, inl, inr, arith, rules}
use Rattle.std.specs.Int.{IsInRange}
use Rattle.std.proofs.lemmas.Fmt.{AppendsLastDigit, decimal_from_appends, length-decimal-le, decimal_step, decimal_digit, digits_decimal, digits_value-decimal, first_decimal}
use Rattle.std.proofs.lemmas.List.{get_or_default, length_push}
use Rattle.std.proofs.lemmas.Str.Parse.{IsNumeralModel, numerals_by_fold, tells_by_index}
use Rattle.std.proofs.lemmas.Bool.{lt-ltb, le-ltb, cases_eq, cond-true, cond-false, cond_both}
use Rattle.lines.specs.Lines.{last_digits, digits, read_on, value_of, DigitsReadBack, DigitsAreDigits, NoLeadingZero}

-- They are spelled from the front, the last digit at the end.
spelled : AppendsLastDigit last_digits
spelled = record {
  one = λ k n small. cond-true (ltb n 10) _ _ (lt-ltb n 10 small);
  more = λ k n large. cond-false (ltb n 10) _ _ (le-ltb n 10 large);
}

-- They are the bytes by which the number is displayed.
pub digits_displayed : (n : ℕ) → n < 2 ^ 64 → digits n ≡ decimal n
unfolding digits
digits_displayed n small = decimal_from_appends last_digits spelled 20 n small (length-decimal-le 20 n (omega arith) (omega arith) small)

-- A number below ten is one digit.
pub digits_one : (n : ℕ) → n < 10 → digits n ≡ (48 + n) ∷ []
digits_one n low = digits_displayed n (omega arith) ∙ decimal_digit n low

-- A larger one has the digits of its tenth, then its last digit.
pub digits_more : (n : ℕ) → 10 ≤ n → n < 2 ^ 64 → digits n ≡ digits (n / 10) ++ ((48 + n % 10) ∷ [])
digits_more n large small =
    digits_displayed n small ∙ decimal_step n large small ∙ ap (λ ds. ds ++ ((48 + n % 10) ∷ [])) (sym (digits_displayed (n / 10) (omega arith)))

-- Every number has a digit, and none has more than twenty.
last_digits_some : (most n : ℕ) → 0 < length (last_digits (suc most) n)
last_digits_some most n =
    let front = last_digits most (n / 10) in
    cond_both (ltb n 10) ((48 + n) ∷ []) (front ++ ((48 + n % 10) ∷ [])) (λ ds. 0 < length ds) (λ _. omega arith) (λ _. omega (arith, length_push front (48 + n % 10)))

last_digits_few : (most n : ℕ) → length (last_digits most n) ≤ most
last_digits_few zero n = omega arith
last_digits_few (suc most) n =
    let front = last_digits most (n / 10) in
    cond_both (ltb n 10) ((48 + n) ∷ []) (front ++ ((48 + n % 10) ∷ [])) (λ ds. length ds ≤ suc most) (λ _. omega arith)
    (λ _. omega (arith, length_push front (48 + n % 10), last_digits_few most (n / 10)))

pub digits_some : (n : ℕ) → 0 < length (digits n)
unfolding digits
digits_some n = last_digits_some 19 n

pub digits_few : (n : ℕ) → length (digits n) ≤ 20
unfolding digits
digits_few n = last_digits_few 20 n

-- A number below a power of ten has at most so many digits.
last_digits_long : (most k n : ℕ) → n < 10 ^ k → 0 < k → length (last_digits most n) ≤ k
last_digits_long zero k n low some = omega arith
last_digits_long (suc most) zero n low some = absurd (let no : ⊥ = omega arith in no)
last_digits_long (suc most) (suc zero) n low some = omega (arith, ap length (spelled.one most n (omega arith)))
last_digits_long (suc most) (suc (suc k)) n low some =
    let front = last_digits most (n / 10) in
    cond_both (ltb n 10) ((48 + n) ∷ []) (front ++ ((48 + n % 10) ∷ [])) (λ ds. length ds ≤ suc (suc k)) (λ _. omega arith)
    (λ _. omega (arith, length_push front (48 + n % 10), last_digits_long most (suc k) (n / 10) (omega arith) (omega arith)))

pub digits_long : (k n : ℕ) → n < 10 ^ k → 0 < k → length (digits n) ≤ k
unfolding digits
digits_long k n low some = last_digits_long 20 k n low some

-- So for numbers of at most three, six, seven or ten digits.
pub digits_long_3 : (n : ℕ) → n < 1000 → length (digits n) ≤ 3
digits_long_3 n low = digits_long 3 n low (omega arith)

pub digits_long_6 : (n : ℕ) → n < 1000000 → length (digits n) ≤ 6
digits_long_6 n low = digits_long 6 n low (omega arith)

pub digits_long_7 : (n : ℕ) → n < 10000000 → length (digits n) ≤ 7
digits_long_7 n low = digits_long 7 n low (omega arith)

pub digits_long_10 : (n : ℕ) → n < 10000000000 → length (digits n) ≤ 10
digits_long_10 n low = digits_long 10 n low (omega arith)

-- A number below ten has one digit, a larger one has one more than its tenth.
pub length_digits_one : (n : ℕ) → n < 10 → length (digits n) ≡ 1
length_digits_one n low = ap length (digits_one n low)

pub length_digits_more : (n : ℕ) → 10 ≤ n → n < 2 ^ 64 → length (digits n) ≡ length (digits (n / 10)) + 1
length_digits_more n large small = ap length (digits_more n large small) ∙ length_push (digits (n / 10)) (48 + n % 10)

-- Digits are read here as numerals are.
own : IsNumeralModel (λ ds. (i : ℕ) → i < length ds → IsInRange 48 57 (get_or ds i 0)) (read_on 0)
own = numerals_by_fold _ tells_by_index read_on (search rules)

-- So the number is read back, every byte is a digit, and the first one is no zero unless the number is 0.
pub digits_read_back : DigitsReadBack
digits_read_back n small = ap value_of (digits_displayed n small) ∙ digits_value-decimal own n small

pub digits_are_digits : DigitsAreDigits
digits_are_digits n k small within = subst (λ ds. (i : ℕ) → i < length ds → IsInRange 48 57 (get_or ds i 0)) (sym (digits_displayed n small)) (digits_decimal own n small) k within

pub no_leading_zero : NoLeadingZero
no_leading_zero = (
  digits_one 0 (omega arith),
  λ n small zero-first. elim (cases_eq n 0) [
    | inl e ↦ e
    | inr e ↦ absurd (let no : ⊥ = omega (arith, e, zero-first, get_or_default (digits n) 0 48 0 (digits_some n), ap (λ ds. get_or ds 0 0) (digits_displayed n small), first_decimal n (omega (arith, e)) small) in no)
  ],
)

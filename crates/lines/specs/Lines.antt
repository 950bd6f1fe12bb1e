-- The bytes of a line: a letter, fields in decimal, each after one space, and the byte 10.
use Rattle.std.specs.Prelude.{◌≡◌, ℕ, zero, suc, ◌+◌, ◌-◌, ◌*◌, ◌/◌, ◌%◌, ◌^◌, ◌<◌, ◌≤◌, Bool, cond, List, [], ◌∷◌, ◌++◌, length, take, drop, nat_le, nat_lt, slice_index, slice_index_or}

-- the last digits of a number, at most so many: the digits of its tenth, then its last digit
abbrev pub last_digits : ℕ → ℕ → List ℕ
last_digits zero n = []
last_digits (suc most) n = cond (nat_lt n 10) ((48 + n) ∷ []) (last_digits most (n / 10) ++ ((48 + n % 10) ∷ []))

-- the decimal of a number as bytes, the highest digit first; twenty digits are enough below 2 ^ 64
unfoldable pub digits : ℕ → List ℕ
digits n = last_digits 20 n

-- a field: one space, then the decimal
abbrev pub field : ℕ → List ℕ
field n = 32 ∷ digits n

abbrev pub fields_of : List ℕ → List ℕ
fields_of [] = []
fields_of (n ∷ ns) = field n ++ fields_of ns

-- a line: the letter, the fields, and the byte that ends it
unfoldable pub line_of : ℕ → List ℕ → List ℕ
line_of letter ns = letter ∷ (fields_of ns ++ (10 ∷ []))

-- whether bytes fit into so much room from a place on
abbrev pub fits_room : ℕ → ℕ → List ℕ → Bool
fits_room room at bytes = nat_le (at + length bytes) room

-- whether bytes fit into a buffer from a place on
abbrev pub fits : List ℕ → ℕ → List ℕ → Bool
fits buffer at bytes = fits_room (length buffer) at bytes

-- a buffer after bytes were written into it from a place on: what lies before and behind them is as it was
unfoldable pub written : List ℕ → ℕ → List ℕ → List ℕ
written buffer at bytes = take at buffer ++ (bytes ++ drop (at + length bytes) buffer)

-- the number that is read from digits, after those that were read so far
abbrev pub read_on : ℕ → List ℕ → ℕ
read_on n [] = n
read_on n (b ∷ bs) = read_on (10 * n + (b - 48)) bs

abbrev pub value_of : List ℕ → ℕ
value_of bs = read_on 0 bs

-- From the digits of a number the number is read back.
abbrev pub DigitsReadBack : Type 0
DigitsReadBack = (n : ℕ) → n < 2 ^ 64 → value_of (digits n) ≡ n

-- Every byte of them is one of the ten digits.
abbrev pub DigitsAreDigits : Type 0
DigitsAreDigits = (n k : ℕ) → n < 2 ^ 64 → k < length (digits n) → (48 ≤ slice_index (digits n) k) × (slice_index (digits n) k ≤ 57)

-- There is a first digit, and it is a zero of the number 0 alone, which is written `0`.
abbrev pub NoLeadingZero : Type 0
NoLeadingZero = (digits 0 ≡ 48 ∷ []) × ((n : ℕ) → n < 2 ^ 64 → slice_index_or (digits n) 0 48 ≡ 48 → n ≡ 0)

-- `S 43000 120 42800` and the end of the line, byte by byte
abbrev pub WorkedLine : Type 0
WorkedLine =
    line_of 83 (43000 ∷ 120 ∷ 42800 ∷ [])
    ≡ 83 ∷ 32 ∷ 52 ∷ 51 ∷ 48 ∷ 48 ∷ 48 ∷ 32 ∷ 49 ∷ 50 ∷ 48 ∷ 32 ∷ 52 ∷ 50 ∷ 56 ∷ 48 ∷ 48 ∷ 10 ∷ []

-- A record within the records of a sheet is the record of that number in the whole sheet.
use Rattle.std.proofs.Common.{◌≡◌, ℕ, ◌+◌, ◌-◌, ◌*◌, ◌<◌, ◌≤◌, List, get_or, take, drop, ap, ◌∙◌, arith}
use Rattle.std.proofs.lemmas.List.{get_or-take, drop-drop, drop-take}
use Rattle.sheet.specs.Layout.{header_of, word16, word32, unit_at, bid_at, limit_at, header_bytes, unit_bytes, bid_bytes, limit_bytes, bids_from, limits_from, unit_of, bid_of, limit_of}
use Rattle.sheet.proofs.Fields.{unit_by_fields, bid_by_fields, limit_by_fields}

-- A number of 16 bits within the first n bytes.
pub word16_within : (s : List ℕ) (n k : ℕ) → k + 1 < n → word16 (take n s) k ≡ word16 s k
word16_within s n k l =
    let low : get_or (take n s) k 0 ≡ get_or s k 0 = get_or-take n s k 0 (omega (arith, l)) in
    let high : get_or (take n s) (k + 1) 0 ≡ get_or s (k + 1) 0 = get_or-take n s (k + 1) 0 l in
    cc

-- A number of 32 bits within the first n bytes.
pub word32_within : (s : List ℕ) (n k : ℕ) → k + 3 < n → word32 (take n s) k ≡ word32 s k
word32_within s n k l =
    let first : get_or (take n s) k 0 ≡ get_or s k 0 = get_or-take n s k 0 (omega (arith, l)) in
    let second : get_or (take n s) (k + 1) 0 ≡ get_or s (k + 1) 0 = get_or-take n s (k + 1) 0 (omega (arith, l)) in
    let third : get_or (take n s) (k + 2) 0 ≡ get_or s (k + 2) 0 = get_or-take n s (k + 2) 0 (omega (arith, l)) in
    let fourth : get_or (take n s) (k + 3) 0 ≡ get_or s (k + 3) 0 = get_or-take n s (k + 3) 0 l in
    cc

-- A record is read from its own bytes only.
pub unit_within : (s : List ℕ) (n : ℕ) → unit_bytes ≤ n → unit_at (take n s) ≡ unit_at s
unit_within s n l =
    unit_by_fields s (get_or-take n s 0 0 (omega (arith, l))) (get_or-take n s 1 0 (omega (arith, l))) (get_or-take n s 2 0 (omega (arith, l)))
    (word16_within s n 3 (omega (arith, l))) (word16_within s n 5 (omega (arith, l))) (word16_within s n 7 (omega (arith, l)))
    (word16_within s n 9 (omega (arith, l))) (word16_within s n 11 (omega (arith, l))) (word16_within s n 13 (omega (arith, l)))
    (word16_within s n 15 (omega (arith, l))) (word16_within s n 17 (omega (arith, l)))

pub bid_within : (s : List ℕ) (n : ℕ) → bid_bytes ≤ n → bid_at (take n s) ≡ bid_at s
bid_within s n l = bid_by_fields s (get_or-take n s 0 0 (omega (arith, l))) (word32_within s n 1 (omega (arith, l))) (word32_within s n 5 (omega (arith, l)))

pub limit_within : (s : List ℕ) (n : ℕ) → limit_bytes ≤ n → limit_at (take n s) ≡ limit_at s
limit_within s n l = limit_by_fields s (get_or-take n s 0 0 (omega (arith, l))) (word32_within s n 1 (omega (arith, l)))

-- What is left of the records behind a bytes of them, as a part of the sheet.
pub left_of_sheet : (s : List ℕ) (m a : ℕ) → a ≤ m → drop a (take m (drop header_bytes s)) ≡ take (m - a) (drop (header_bytes + a) s)
left_of_sheet s m a l =
    let split : m ≡ a + (m - a) = omega (arith, l) in
    ap (λ (k : ℕ). drop a (take k (drop header_bytes s))) split ∙ drop-take a (m - a) (drop header_bytes s) ∙ ap (take (m - a)) (drop-drop a header_bytes s)

-- The unit record behind k units, the bid record behind k bids, the limit record behind k limits.
pub kth_unit : (s : List ℕ) (m k : ℕ) → unit_bytes * k + unit_bytes ≤ m → unit_at (drop (unit_bytes * k) (take m (drop header_bytes s))) ≡ unit_of s k
kth_unit s m k l =
    let part = left_of_sheet s m (unit_bytes * k) (omega (arith, l)) in
    ap unit_at part ∙ unit_within (drop (header_bytes + unit_bytes * k) s) (m - unit_bytes * k) (omega (arith, l))

pub kth_bid : (s : List ℕ) (m k a : ℕ) → header_bytes + a ≡ bids_from (header_of s) + bid_bytes * k → a + bid_bytes ≤ m → bid_at (drop a (take m (drop header_bytes s))) ≡ bid_of s k
kth_bid s m k a at l =
    let part = left_of_sheet s m a (omega (arith, l)) in
    ap bid_at part ∙ bid_within (drop (header_bytes + a) s) (m - a) (omega (arith, l)) ∙ ap (λ (n : ℕ). bid_at (drop n s)) at

pub kth_limit : (s : List ℕ) (m k a : ℕ) → header_bytes + a ≡ limits_from (header_of s) + limit_bytes * k → a + limit_bytes ≤ m → limit_at (drop a (take m (drop header_bytes s))) ≡ limit_of s k
kth_limit s m k a at l =
    let part = left_of_sheet s m a (omega (arith, l)) in
    ap limit_at part ∙ limit_within (drop (header_bytes + a) s) (m - a) (omega (arith, l)) ∙ ap (λ (n : ℕ). limit_at (drop n s)) at

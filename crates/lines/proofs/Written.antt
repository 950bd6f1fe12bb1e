-- Bytes written into a buffer, one part behind the other.
use Rattle.std.proofs.Common.{◌≡◌, ℕ, suc, ◌+◌, ◌<◌, ◌≤◌, List, [], ◌∷◌, ◌++◌, length, take, drop, set, sym, ap, ◌∙◌, append_assoc, arith, length-append}
use Rattle.std.proofs.lemmas.List.{take-append-drop, length-take-le, length-drop, set_split, take-set-le, drop-set, drop-drop, drop_at, take_at}
use Rattle.lines.specs.Lines.{written}

-- Nothing written leaves the buffer as it is.
pub written_none : (b : List ℕ) (at : ℕ) → written b at [] ≡ b
unfolding written
written_none b at = ap (λ (n : ℕ). take at b ++ drop n b) {x = at + 0} {y = at} (omega arith) ∙ take-append-drop at b

-- The buffer keeps its length.
pub length_written : (b : List ℕ) (at : ℕ) (xs : List ℕ) → at + length xs ≤ length b → length (written b at xs) ≡ length b
unfolding written
length_written b at xs room =
    let rest = drop (at + length xs) b in
    omega (arith, length-append (take at b) (xs ++ rest), length-append xs rest, length-take-le at b (omega arith), length-drop (at + length xs) b)

-- Up to the end of what was written stand the bytes before it, and then it.
pub take_written : (b : List ℕ) (at : ℕ) (xs : List ℕ) → at ≤ length b → take (at + length xs) (written b at xs) ≡ take at b ++ xs
unfolding written
take_written b at xs room =
    ap (take (at + length xs)) (sym (append_assoc (take at b) xs (drop (at + length xs) b)))
    ∙ take_at (take at b ++ xs) (drop (at + length xs) b) (at + length xs) (omega (arith, length-append (take at b) xs, length-take-le at b room))

-- Behind it the bytes are as they were.
pub drop_written : (b : List ℕ) (at : ℕ) (xs : List ℕ) → at ≤ length b → drop (at + length xs) (written b at xs) ≡ drop (at + length xs) b
unfolding written
drop_written b at xs room =
    ap (drop (at + length xs)) (sym (append_assoc (take at b) xs (drop (at + length xs) b)))
    ∙ drop_at (take at b ++ xs) (drop (at + length xs) b) (at + length xs) (omega (arith, length-append (take at b) xs, length-take-le at b room))

-- A buffer that holds bytes up to their end, and behind them what it held, takes more bytes as if both were written as one.
written_joined : (b w : List ℕ) (at : ℕ) (xs ys : List ℕ) → take (at + length xs) w ≡ take at b ++ xs → drop (at + length xs + length ys) w ≡ drop (at + length xs + length ys) b → written w (at + length xs) ys ≡ written b at (xs ++ ys)
unfolding written
written_joined b w at xs ys front back =
    let behind = drop (at + length xs + length ys) b in
    (λ i. front i ++ (ys ++ back i))
    ∙ append_assoc (take at b) xs (ys ++ behind)
    ∙ ap (λ zs. take at b ++ zs) (sym (append_assoc xs ys behind))
    ∙ ap (λ (n : ℕ). take at b ++ ((xs ++ ys) ++ drop n b)) {x = at + length xs + length ys} {y = at + length (xs ++ ys)} (omega (arith, length-append xs ys))

-- Bytes written behind bytes are both written as one.
pub written_then : (b : List ℕ) (at : ℕ) (xs ys : List ℕ) → at ≤ length b → written (written b at xs) (at + length xs) ys ≡ written b at (xs ++ ys)
written_then b at xs ys room =
    let n = at + length xs in
    written_joined b (written b at xs) at xs ys (take_written b at xs room)
    (sym (drop-drop (length ys) n (written b at xs)) ∙ ap (drop (length ys)) (drop_written b at xs room) ∙ drop-drop (length ys) n b)

-- One byte set is one byte written.
pub written_one : (b : List ℕ) (at x : ℕ) → at < length b → set b at x ≡ written b at (x ∷ [])
unfolding written
written_one b at x room = set_split b at x room ∙ ap (λ (n : ℕ). take at b ++ (x ∷ drop n b)) {x = suc at} {y = at + 1} (omega arith)

-- A byte set before the bytes in front of it are written is the last byte of both.
pub written_last : (b : List ℕ) (at : ℕ) (xs : List ℕ) (x : ℕ) → at + length xs < length b → written (set b (at + length xs) x) at xs ≡ written b at (xs ++ (x ∷ []))
unfolding written
written_last b at xs x room =
    (λ i. take-set-le at b (at + length xs) x (omega arith) i ++ (xs ++ drop-set b (at + length xs) x room i))
    ∙ ap (λ zs. take at b ++ zs) (sym (append_assoc xs (x ∷ []) (drop (at + length xs + 1) b)))
    ∙ ap (λ (n : ℕ). take at b ++ ((xs ++ (x ∷ [])) ++ drop n b)) {x = at + length xs + 1} {y = at + length (xs ++ (x ∷ []))} (omega (arith, length-append xs (x ∷ [])))

-- The tariffs of a strip, read one after another.
use Rattle.std.proofs.Common.{◌≡◌, ℕ, zero, suc, ◌<◌, ◌≤◌, List, [], ◌∷◌, length, get_or, take, sym, refl, ap, ◌∙◌, inl, inr, arith}
use Rattle.std.proofs.lemmas.List.{take_all, length_push, get_or_push, get_or_append_left}
use Rattle.std.proofs.lemmas.Bool.{cases_lt}
use Rattle.sheet.specs.Layout.{tariff_of, tariffs_to}

-- A list of so many tariffs, of which as many are read, has them all.
pub all_read : (s xs : List ℕ) (i n : ℕ) → i ≡ n → length xs ≡ n → take i xs ≡ tariffs_to i s → xs ≡ tariffs_to n s
all_read s xs i n at long so =
    let enough : length xs ≤ i = omega (arith, at, long) in
    sym (take_all i xs enough) ∙ so ∙ ap (λ (k : ℕ). tariffs_to k s) at

-- The first n tariffs are n, and the tariff of a number stands at its place.
pub length_tariffs : (s : List ℕ) (n : ℕ) → length (tariffs_to n s) ≡ n
length_tariffs s zero = refl
length_tariffs s (suc n) =
    let before : length (tariffs_to n s) ≡ n = length_tariffs s n in
    omega (arith, before, length_push (tariffs_to n s) (tariff_of s n))

pub tariff_at_lem : (s : List ℕ) (n k : ℕ) → k < n → get_or (tariffs_to n s) k 0 ≡ tariff_of s k
tariff_at_lem s zero k l = absurd (let no : ⊥ = omega (arith, l) in no)
tariff_at_lem s (suc n) k l = elim (cases_lt k n) [
  | inl under ↦ get_or_append_left (tariffs_to n s) (tariff_of s n ∷ []) 0 k (omega (arith, under, length_tariffs s n)) ∙ tariff_at_lem s n k under
  | inr not-under ↦
      let last : n ≡ k = omega (arith, l, not-under) in
      get_or_push (tariffs_to n s) (tariff_of s n) 0 k (length_tariffs s n ∙ last) ∙ ap (tariff_of s) last
]

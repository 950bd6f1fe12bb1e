-- Tables of numbers: one number throughout, or one number changed.
use Rattle.std.proofs.Common.{◌≡◌, ℕ, zero, suc, ◌<◌, ◌≤◌, List, length, get_or, set, replicate, inl, inr, arith}
use Rattle.std.proofs.lemmas.List.{get_or-set_same, get_or-set_other, set_past}
use Rattle.std.proofs.lemmas.Bool.{cases_eq, cases_lt}

-- What holds at each number of a table still holds when one is changed to a number of which it holds.
pub each_after_set : (P : ℕ → ℕ → Type 0) (xs : List ℕ) (k v : ℕ) → P k v → ((c : ℕ) → P c (get_or xs c 0)) → (c : ℕ) → P c (get_or (set xs k v) c 0)
each_after_set P xs k v new old c =
    elim (cases_eq c k) [ inl e ↦ rw e changed | inr ne ↦ rw (get_or-set_other xs k c v 0 ne) (old c) ]
  where
    changed : P k (get_or (set xs k v) k 0)
    changed = elim (cases_lt k (length xs)) [ inl l ↦ rw (get_or-set_same xs k v 0 l) new | inr l ↦ rw (set_past xs k v l) (old k) ]

-- A table of one number holds no more than that number anywhere.
pub most_of_one_number : (n v c : ℕ) → get_or (replicate n v) c 0 ≤ v
most_of_one_number zero v c = omega arith
most_of_one_number (suc n) v zero = omega arith
most_of_one_number (suc n) v (suc c) = most_of_one_number n v c

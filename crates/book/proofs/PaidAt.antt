-- At which price a place is paid.
use Rattle.std.proofs.Common.{◌≡◌, ℕ, ◌<◌, ◌≤◌, true, false, cond, ◌&&◌, eqb, sym, ap, ◌∙◌, inl, inr, arith}
use Rattle.std.proofs.lemmas.Bool.{cases_Bool, cases_eq, cases_lt, cond-true, cond-false, and_from, and_left, and_right, eq-eqb, ne_eqb}
use Rattle.lawful.proofs.Sums.{sum_same, sum_zeros, sum_place}
use Rattle.outcome.specs.Entries.{Entries, some_bids}
use Rattle.outcome.specs.Laws.{in_segment}
use Rattle.outcome.proofs.Bids.{lands_within, lands_above, out_of_segment}
use Rattle.book.specs.Views.{Declaration}
use Rattle.book.specs.Money.{paid_at}

-- A place stands in the segment of the least bid at or above its landed offer.
pub in_first_segment : (e : Entries) (p b : ℕ) → e.landed p ≤ b → ((c : ℕ) → c < b → some_bids e c ≡ true → c < e.landed p) → in_segment e b p ≡ true
in_first_segment e p b within above =
    elim (cases_Bool (in_segment e b p)) [
      | inl h ↦ h
      | inr h ↦ absurd (elim (out_of_segment e b p h) [ inl high ↦ omega arith | inr d ↦ omega (arith, d.3, above d.0 d.1 d.2) ])
    ]

-- A place does not stand in the segment of a bid below its landed offer.
pub not_below : (e : Entries) (p c : ℕ) → (some_bids e c ≡ true → c < e.landed p) → (some_bids e c && in_segment e c p) ≡ false
not_below e p c above =
    elim (cases_Bool (some_bids e c)) [
      | inr none ↦ and_left (some_bids e c) (in_segment e c p) none
      | inl some ↦
          elim (cases_Bool (in_segment e c p)) [
            | inr h ↦ and_right (some_bids e c) (in_segment e c p) h
            | inl h ↦ absurd (let no : ⊥ = omega (arith, lands_within e c p h, above some) in no)
          ]
    ]

-- A place does not stand in the segment of a bid above another one at or above its landed offer.
pub not_above : (e : Entries) (p b c : ℕ) → some_bids e b ≡ true → e.landed p ≤ b → b < c → (some_bids e c && in_segment e c p) ≡ false
not_above e p b c some within higher =
    elim (cases_Bool (in_segment e c p)) [
      | inr h ↦ and_right (some_bids e c) (in_segment e c p) h
      | inl h ↦ absurd (let no : ⊥ = omega (arith, lands_above e c p h b higher some) in no)
    ]

-- A place is paid at the price of the least bid at or above its landed offer.
pub paid_at_least_bid :
    (e : Entries) (d : Declaration) (p b : ℕ) → b ≤ 200000 → some_bids e b ≡ true → e.landed p ≤ b
    → ((c : ℕ) → c < b → some_bids e c ≡ true → c < e.landed p) → paid_at e d p ≡ d.price b
paid_at_least_bid e d p b top some within above =
    sum_same 200001 (λ c. cond (some_bids e c && in_segment e c p) (d.price c) 0) (λ c. cond (eqb c b) (d.price b) 0) (λ c _. term c)
    ∙ sum_place 200001 b (d.price b) (omega arith)
  where
    elsewhere : (c : ℕ) → (c ≡ b → ⊥) → (some_bids e c && in_segment e c p) ≡ false
    elsewhere c other =
        elim (cases_lt c b) [ inl lower ↦ not_below e p c (above c lower) | inr l ↦ not_above e p b c some within (omega (arith, other)) ]

    here : (some_bids e b && in_segment e b p) ≡ true
    here = and_from (some_bids e b) (in_segment e b p) some (in_first_segment e p b within above)

    term : (c : ℕ) → cond (some_bids e c && in_segment e c p) (d.price c) 0 ≡ cond (eqb c b) (d.price b) 0
    term c =
        elim (cases_eq c b) [
          | inl same ↦
              ap (λ k. cond (some_bids e k && in_segment e k p) (d.price k) 0) same
              ∙ cond-true (some_bids e b && in_segment e b p) (d.price b) 0 here
              ∙ sym (cond-true (eqb c b) (d.price b) 0 (eq-eqb c b same))
          | inr other ↦
              cond-false (some_bids e c && in_segment e c p) (d.price c) 0 (elsewhere c other) ∙ sym (cond-false (eqb c b) (d.price b) 0 (ne_eqb c b other))
        ]

-- A place that lands above every bid is paid nothing.
pub paid_at_none : (e : Entries) (d : Declaration) (p : ℕ) → ((c : ℕ) → c ≤ 200000 → some_bids e c ≡ true → c < e.landed p) → paid_at e d p ≡ 0
paid_at_none e d p above =
    sum_same 200001 (λ c. cond (some_bids e c && in_segment e c p) (d.price c) 0) (λ c. 0)
    (λ c l. cond-false (some_bids e c && in_segment e c p) (d.price c) 0 (not_below e p c (above c (omega arith))))
    ∙ sum_zeros 200001

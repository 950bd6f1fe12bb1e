-- What a sweep of levels leaves of an award, and what its price is worth.
use Rattle.std.proofs.Common.{◌≡◌, ℕ, zero, suc, ◌+◌, ◌*◌, ◌<◌, ◌≤◌, ltb, ◌⊎◌, refl, ◌∙◌, inl, inr, arith}
use Rattle.std.proofs.lemmas.Bool.{cases_Bool, cases_eq, cases_lt, lt-ltb, le-ltb}
use Rattle.lawful.specs.Sums.{sum_to}
use Rattle.lawful.specs.Awards.{AwardSet}
use Rattle.lawful.proofs.Sums.{sum_le}
use Rattle.outcome.specs.Entries.{Entries, level}
use Rattle.outcome.specs.Groups.{total, work_group}
use Rattle.outcome.specs.Outcome.{Swept, sweep}
use Rattle.outcome.proofs.GroupGrowth.{group_grows, group_only, group_within_goal}

-- Where no term is greater and one is less, the sum is less.
pub sum_less : (n : ℕ) (f g : ℕ → ℕ) (k : ℕ) → k < n → ((j : ℕ) → j < n → f j ≤ g j) → f k < g k → sum_to n f < sum_to n g
unfolding sum_to
sum_less zero f g k l h less = absurd (omega arith)
sum_less (suc n) f g k l h less =
    elim (cases_eq k n) [
      | inl e ↦ let here : f n < g n = rw e at less in omega (arith, sum_le n f g (λ j i. h j (omega arith)))
      | inr ne ↦ omega (arith, h n (omega arith), sum_less n f g k (omega arith) (λ j i. h j (omega arith)) less)
    ]

module _ (A : AwardSet) (e : Entries) (goal low : ℕ) (s : Swept) where
  -- A sweep lowers no place.
  pub sweep_grows : (n p : ℕ) → s.award p ≤ (sweep A e goal low n s).award p
  unfolding sweep
  sweep_grows zero p = omega arith
  sweep_grows (suc n) p = omega (arith, sweep_grows n p, group_grows A e goal (low + n) (sweep A e goal low n s).award p)

  -- A sweep changes no place that stands below or above its levels.
  pub sweep_only : (n p : ℕ) → (level e p < low) ⊎ (low + n ≤ level e p) → (sweep A e goal low n s).award p ≡ s.award p
  unfolding sweep
  sweep_only zero p h = refl
  sweep_only (suc n) p h =
      let other : level e p ≡ low + n → ⊥ = λ same. elim h [ inl l ↦ omega arith | inr l ↦ omega arith ] in
      let before : (level e p < low) ⊎ (low + n ≤ level e p) = elim h [ inl l ↦ inl l | inr l ↦ inr (omega arith) ] in
      group_only A e goal (low + n) (sweep A e goal low n s).award p other ∙ sweep_only n p before

  -- A sweep that starts within the goal ends within it.
  pub sweep_within_goal : (n : ℕ) → total s.award ≤ goal → total (sweep A e goal low n s).award ≤ goal
  unfolding sweep
  sweep_within_goal zero le = le
  sweep_within_goal (suc n) le = group_within_goal A e goal (low + n) (sweep A e goal low n s).award (sweep_within_goal n le)

  -- A sweep that takes nothing keeps the price.
  pub sweep_price_kept : (n : ℕ) → total (sweep A e goal low n s).award ≡ total s.award → (sweep A e goal low n s).price ≡ s.price
  unfolding sweep
  sweep_price_kept zero same = refl
  sweep_price_kept (suc n) same =
      let t = sweep A e goal low n s in
      let z = work_group A e goal (low + n) t.award in
      let so_far = sum_le 256 s.award t.award (λ p l. sweep_grows n p) in
      let then-on = sum_le 256 t.award z (λ p l. group_grows A e goal (low + n) t.award p) in
      rw (le-ltb (total t.award) (total z) (omega arith)) (sweep_price_kept n (omega arith))

  -- A sweep of levels below 8 × (b + 1) has a price of at most b.
  pub sweep_price_le : (n b : ℕ) → s.price ≤ b → low + n ≤ 8 * suc b → (sweep A e goal low n s).price ≤ b
  unfolding sweep
  sweep_price_le zero b le within = le
  sweep_price_le (suc n) b le within =
      let t = sweep A e goal low n s in
      elim (cases_Bool (ltb (total t.award) (total (work_group A e goal (low + n) t.award)))) [
        | inl h ↦ rw h (omega arith)
        | inr h ↦ rw h (sweep_price_le n b le (omega arith))
      ]

  -- The price covers the landed offer of every place that took something.
  pub sweep_covers : (n p : ℕ) → p < 256 → e.class p < 8 → s.award p < (sweep A e goal low n s).award p → e.landed p ≤ (sweep A e goal low n s).price
  unfolding sweep
  sweep_covers zero p in-range small grew = absurd (omega arith)
  sweep_covers (suc n) p in-range small grew =
      let t = sweep A e goal low n s in
      let z = work_group A e goal (low + n) t.award in
      elim (cases_eq (level e p) (low + n)) [
        | inl at_level ↦
            let same = sweep_only n p (inr (omega arith)) in
            let taken = sum_less 256 t.award z p in-range (λ j l. group_grows A e goal (low + n) t.award j) (omega (arith, same)) in
            rw (lt-ltb (total t.award) (total z) taken) (omega arith)
        | inr other ↦
            let same = group_only A e goal (low + n) t.award p other in
            let grew-before : s.award p < t.award p = omega (arith, same) in
            let so_far = sweep_covers n p in-range small grew-before in
            let below : level e p < low + n = elim (cases_lt (level e p) (low + n)) [ inl l ↦ l | inr l ↦ absurd (omega (arith, sweep_only n p (inr l))) ] in
            elim (cases_Bool (ltb (total t.award) (total z))) [ inl h ↦ rw h (omega arith) | inr h ↦ rw h so_far ]
      ]

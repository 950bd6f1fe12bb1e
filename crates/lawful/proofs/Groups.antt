-- Limits on groups of places that nest keep the laws.
use Rattle.std.proofs.Common.{◌≡◌, ℕ, zero, suc, ◌+◌, ◌<◌, ◌≤◌, Bool, true, false, cond, not, ◌&&◌, ◌||◌, eqb, leb, ◌⊎◌, sym, refl, ◌∙◌, inl, inr, arith}
use Rattle.std.proofs.lemmas.Bool.{leb-true, le-leb, eqb-true, eqb-false, cases_eq, cases_Bool, or_parts, not-true}
use Rattle.lawful.specs.Sums.{sum_to}
use Rattle.lawful.specs.Awards.{Award, zero_award, raise, keep, within}
use Rattle.lawful.specs.Lawful.{grouped, Nested, NestedGroupsAreLawful}
use Rattle.lawful.proofs.Sums.{less_somewhere, all_below_at, all_below_from}
use Rattle.lawful.proofs.Awards.{keep_less, within_le, within_same, within_zero, within_raise, within_and_rest, within_either}

-- A member keeps the limit of each group.
pub grouped_at : (n m : ℕ) (has : ℕ → ℕ → Bool) (limit : ℕ → ℕ) (x : Award) → grouped n m has limit x ≡ true → (g : ℕ) → g < m → within n (has g) x ≤ limit g
grouped_at n m has limit x h g l = leb-true (within n (has g) x) (limit g) (all_below_at m (λ g. leb (within n (has g) x) (limit g)) h g l)

-- An award that keeps the limit of each group is a member.
pub grouped_from : (n m : ℕ) (has : ℕ → ℕ → Bool) (limit : ℕ → ℕ) (x : Award) → ((g : ℕ) → g < m → within n (has g) x ≤ limit g) → grouped n m has limit x ≡ true
grouped_from n m has limit x h =
    all_below_from m (λ g. leb (within n (has g) x) (limit g)) (λ g l. le-leb (within n (has g) x) (limit g) (h g l))

-- a group is tight when the award has used up its limit
abbrev tight : ℕ → (ℕ → ℕ → Bool) → (ℕ → ℕ) → Award → ℕ → Bool
tight n has limit x g = eqb (within n (has g) x) (limit g)

-- the places of the tight groups below k, where `full g` says that the group g is tight
blocked : (ℕ → ℕ → Bool) → (ℕ → Bool) → ℕ → ℕ → Bool
blocked has full zero p = false
blocked has full (suc k) p = (full k && has k p) || blocked has full k p

-- A place that is not blocked lies in no tight group.
not_blocked : (has : ℕ → ℕ → Bool) (full : ℕ → Bool) (k p : ℕ) → blocked has full k p ≡ false → (g : ℕ) → g < k → has g p ≡ true → full g ≡ false
unfolding blocked
not_blocked has full zero p h g l in_g = absurd (omega arith)
not_blocked has full (suc k) p h g l in_g =
    let parts = or_parts (full k && has k p) (blocked has full k p) h in
    elim (cases_eq g k) [
      | inl e ↦ rw e (let d : has k p ≡ true = rw e at in_g in let f = parts.0 in grind arith)
      | inr ne ↦ not_blocked has full k p parts.1 g (omega arith) in_g
    ]

-- A group that is not tight blocks no further place.
blocked_by_loose : (has : ℕ → ℕ → Bool) (full : ℕ → Bool) (k p : ℕ) → full k ≡ false → blocked has full (suc k) p ≡ blocked has full k p
unfolding blocked
blocked_by_loose has full k p h = rw h

-- A tight group blocks its own places beside those that were blocked.
blocked_by_tight : (has : ℕ → ℕ → Bool) (full : ℕ → Bool) (k p : ℕ) → full k ≡ true → blocked has full (suc k) p ≡ (has k p || blocked has full k p)
unfolding blocked
blocked_by_tight has full k p h = rw h

-- the places H lie wholly inside P, or wholly outside
abbrev Apart : ℕ → (ℕ → Bool) → (ℕ → Bool) → Type 0
Apart n H P = ((p : ℕ) → p < n → H p ≡ true → P p ≡ true) ⊎ ((p : ℕ) → p < n → H p ≡ true → P p ≡ false)

-- Each group lies wholly inside or wholly outside the places that groups of lower number block.
group_apart : (n m : ℕ) (has : ℕ → ℕ → Bool) (full : ℕ → Bool) → Nested n m has → (h k : ℕ) → h < m → k ≤ h → Apart n (has h) (blocked has full k)
unfolding blocked
group_apart n m has full nested h zero l j = inr (λ p _ _. refl)
group_apart n m has full nested h (suc k) l j =
    elim (cases_Bool (full k)) [
      | inl tgt ↦
          elim (nested k h (omega arith) l) [
            | inl inside ↦ inl (λ p lp hp. rw (blocked_by_tight has full k p tgt, inside p lp hp))
            | inr outside ↦
                elim (group_apart n m has full nested h k l (omega arith)) [
                  | inl in-k ↦ inl (λ p lp hp. rw (blocked_by_tight has full k p tgt, outside p lp hp) (in-k p lp hp))
                  | inr out-k ↦ inr (λ p lp hp. rw (blocked_by_tight has full k p tgt, outside p lp hp) (out-k p lp hp))
                ]
          ]
      | inr loose ↦
          elim (group_apart n m has full nested h k l (omega arith)) [
            | inl in-k ↦ inl (λ p lp hp. rw (blocked_by_loose has full k p loose) (in-k p lp hp))
            | inr out-k ↦ inr (λ p lp hp. rw (blocked_by_loose has full k p loose) (out-k p lp hp))
          ]
    ]

-- A tight group inside the blocked places leaves what is drawn from them.
drawn_inside : (n : ℕ) (has : ℕ → ℕ → Bool) (full : ℕ → Bool) (k : ℕ) (z : Award) → ((p : ℕ) → p < n → has k p ≡ true → blocked has full k p ≡ true)
    → full k ≡ true → within n (blocked has full (suc k)) z ≡ within n (blocked has full k) z
drawn_inside n has full k z inside tgt =
    within_same n (blocked has full (suc k)) (blocked has full k) z (λ p l. blocked_by_tight has full k p tgt ∙ or_absorbs (has k p) (blocked has full k p) (inside p l))
  where
    or_absorbs : (a b : Bool) → (a ≡ true → b ≡ true) → (a || b) ≡ b
    or_absorbs true b h = sym (h refl)
    or_absorbs false b h = refl

-- A group that is not tight leaves it too.
drawn_loose : (n : ℕ) (has : ℕ → ℕ → Bool) (full : ℕ → Bool) (k : ℕ) (z : Award) → full k ≡ false
    → within n (blocked has full (suc k)) z ≡ within n (blocked has full k) z
drawn_loose n has full k z loose =
    within_same n (blocked has full (suc k)) (blocked has full k) z (λ p l. blocked_by_loose has full k p loose)

-- A tight group outside the blocked places adds what is drawn from it.
drawn_outside : (n : ℕ) (has : ℕ → ℕ → Bool) (full : ℕ → Bool) (k : ℕ) (z : Award) → ((p : ℕ) → p < n → has k p ≡ true → blocked has full k p ≡ false)
    → full k ≡ true → within n (blocked has full (suc k)) z ≡ within n (has k) z + within n (blocked has full k) z
drawn_outside n has full k z outside tgt =
    within_same n (blocked has full (suc k)) (λ p. has k p || blocked has full k p) z (λ p l. blocked_by_tight has full k p tgt)
    ∙ within_either n (has k) (blocked has full k) z outside

-- From the blocked places another member draws no more: from a tight group the award draws the limit, and the other member no more than that.
blocked_draws : (n m : ℕ) (has : ℕ → ℕ → Bool) (limit : ℕ → ℕ) (x y : Award) → Nested n m has → grouped n m has limit y ≡ true
    → (k : ℕ) → k ≤ m → within n (blocked has (tight n has limit x) k) y ≤ within n (blocked has (tight n has limit x) k) x
unfolding blocked
blocked_draws n m has limit x y nested in-y zero l = omega arith
blocked_draws n m has limit x y nested in-y (suc k) l =
    let full : ℕ → Bool = tight n has limit x in
    let before = blocked_draws n m has limit x y nested in-y k (omega arith) in
    elim (cases_Bool (full k)) [
      | inl tgt ↦
          elim (group_apart n m has full nested k k l (omega arith)) [
            | inl inside ↦ rw (drawn_inside n has full k x inside tgt, drawn_inside n has full k y inside tgt) before
            | inr outside ↦ omega (arith, drawn_outside n has full k x outside tgt, drawn_outside n has full k y outside tgt, eqb-true (within n (has k) x) (limit k) tgt, grouped_at n m has limit y in-y k l)
          ]
      | inr loose ↦ rw (drawn_loose n has full k x loose, drawn_loose n has full k y loose) before
    ]

-- A raised place that is in no tight group keeps the limit of each group.
raise_keeps_limits : (n m : ℕ) (has : ℕ → ℕ → Bool) (limit : ℕ → ℕ) (x : Award) (p : ℕ) → grouped n m has limit x ≡ true → p < n
    → blocked has (tight n has limit x) m p ≡ false → grouped n m has limit (raise x p 1) ≡ true
raise_keeps_limits n m has limit x p in-x lp free =
    grouped_from n m has limit (raise x p 1) (λ g l. rw (within_raise n (has g) x p 1 lp) (kept g l))
  where
    kept : (g : ℕ) → g < m → within n (has g) x + cond (has g p) 1 0 ≤ limit g
    kept g l =
        let at_most = grouped_at n m has limit x in-x g l in
        elim (cases_Bool (has g p)) [
          | inl e ↦
              let ne = eqb-false (within n (has g) x) (limit g) (not_blocked has (tight n has limit x) m p free g l e) in
              rw e (omega arith)
          | inr e ↦ rw e (omega arith)
        ]

-- Of two members the one with the lesser total can be raised: outside the tight groups the other still holds more.
grouped_exchange : (n m : ℕ) (has : ℕ → ℕ → Bool) (limit : ℕ → ℕ) → Nested n m has → (x y : Award) → grouped n m has limit x ≡ true → grouped n m has limit y ≡ true
    → sum_to n x < sum_to n y → (p : ℕ) × (p < n) × (x p < y p) × (grouped n m has limit (raise x p 1) ≡ true)
grouped_exchange n m has limit nested x y in-x in-y less =
    let U : ℕ → Bool = blocked has (tight n has limit x) m in
    let drawn = blocked_draws n m has limit x y nested in-y m (omega arith) in
    let d = less_somewhere n (keep (λ p. not (U p)) x) (keep (λ p. not (U p)) y) (omega (arith, within_and_rest n U x, within_and_rest n U y)) in
    let k = keep_less (λ p. not (U p)) x y d.0 d.2 in
    (d.0, d.1, k.1, raise_keeps_limits n m has limit x d.0 in-x d.1 (not-true (U d.0) k.0))

-- Limits on groups that nest keep the laws.
pub nested_groups_are_lawful : NestedGroupsAreLawful
nested_groups_are_lawful n m has limit nested =
    record {
      zero_in = grouped_from n m has limit zero_award (λ g l. omega (arith, within_zero n (has g)));
      lower = λ x y h in-y. grouped_from n m has limit x (λ g l. omega (arith, within_le n (has g) x y h, grouped_at n m has limit y in-y g l));
      exchange = grouped_exchange n m has limit nested;
    }

-- The groups of a segment, in rising order of their levels, keep this: up to each level the award lies there whole, or nothing more can be taken there.
use Rattle.std.proofs.Common.{◌≡◌, ℕ, zero, suc, ◌+◌, ◌<◌, ◌≤◌, Bool, true, ◌⊎◌, sym, ◌∙◌, subst, inl, inr, arith}
use Rattle.std.proofs.lemmas.Bool.{cases_Bool, cases_lt, cases_eq, leb-true, le-leb, lt-leb}
use Rattle.lawful.specs.Awards.{Award, AwardSet, raise, keep}
use Rattle.lawful.specs.Lawful.{Lawful}
use Rattle.lawful.specs.Worth.{Inside, Full, up_to}
use Rattle.lawful.proofs.Sums.{sum_le, sum_same}
use Rattle.lawful.proofs.Awards.{keep_at, keep_outside}
use Rattle.lawful.proofs.Rooms.{lawful_ext, higher_is_out}
use Rattle.lawful.proofs.Cuts.{caps_keep_laws}
use Rattle.outcome.specs.Entries.{Entries, Ranged, level}
use Rattle.outcome.specs.Groups.{total, work_group}
use Rattle.outcome.specs.Outcome.{Swept, sweep}
use Rattle.outcome.specs.Laws.{permitted}
use Rattle.outcome.proofs.GroupGrowth.{group_grows, group_only, group_within_goal}
use Rattle.outcome.proofs.GroupFull.{Kept, Stuck, group_in, group_keeps, group_full}

-- nothing more can be taken up to any level below m
abbrev pub FullBelow : AwardSet → Entries → ℕ → Award → Type 0
FullBelow A e m z = (l : ℕ) → l < m → Full 256 (permitted A e) (up_to (level e) l) z

-- up to each level the award lies there whole, or nothing more can be taken there
abbrev pub Filled : AwardSet → Entries → Award → Type 0
Filled A e z = (l : ℕ) → Inside 256 (up_to (level e) l) z ⊎ Full 256 (permitted A e) (up_to (level e) l) z

-- The same parts of two awards that are the same at the places of P.
pub keep_same : (P : ℕ → Bool) (x y : Award) (k : ℕ) → (P k ≡ true → x k ≡ y k) → keep P x k ≡ keep P y k
keep_same P x y k same =
    elim (cases_Bool (P k)) [
      | inl h ↦ keep_at P x k h ∙ same h ∙ sym (keep_at P y k h)
      | inr h ↦ keep_outside P x k h ∙ sym (keep_outside P y k h)
    ]

-- An award with nothing above a level lies whole up to it.
pub inside_by_support : (e : Entries) (l : ℕ) (z : Award) → ((p : ℕ) → l < level e p → z p ≡ 0) → Inside 256 (up_to (level e) l) z
inside_by_support e l z none = sum_same 256 (keep (up_to (level e) l) z) z at_place
  where
    at_place : (k : ℕ) → k < 256 → keep (up_to (level e) l) z k ≡ z k
    at_place k _ =
        elim (cases_lt l (level e k)) [
          | inl above ↦ keep_outside (up_to (level e) l) z k (lt-leb (level e k) l above) ∙ sym (none k above)
          | inr below ↦ keep_at (up_to (level e) l) z k (le-leb (level e k) l below)
        ]

module _ (A : AwardSet) (e : Entries) (laws : Lawful 256 A) where
  -- Whether nothing more can be taken at some places depends only on them.
  pub full_carried : (P : ℕ → Bool) (x y : Award) → ((p : ℕ) → P p ≡ true → x p ≡ y p) → Full 256 (permitted A e) P x → Full 256 (permitted A e) P y
  full_carried P x y same full p h at =
      sym (lawful_ext 256 (permitted A e) (raise (keep P x) p 1) (raise (keep P y) p 1) (caps_keep_laws 256 e.capacity A laws)
      (λ k _. omega (arith, keep_same P x y k (same k))))
      ∙ full p h at

  -- What is full below a level stays so where the award changes only from that level on.
  pub full_below_carried :
      (m : ℕ) (x y : Award) → ((p : ℕ) → level e p < m → x p ≡ y p) → (l : ℕ) → l < m
      → Full 256 (permitted A e) (up_to (level e) l) x → Full 256 (permitted A e) (up_to (level e) l) y
  full_below_carried m x y same l less =
      full_carried (up_to (level e) l) x y (λ p at. same p (omega (arith, leb-true (level e p) l at)))

-- What holds of the award in a segment, once the groups below the level m are worked.
pub record WorkedTo (A : AwardSet) (e : Entries) (goal m : ℕ) (z : Award) : Type 0 where
  pub in_set : A z ≡ true
  pub kept : Kept e.capacity z
  pub support : (p : ℕ) → m ≤ level e p → z p ≡ 0
  pub within_goal : total z ≤ goal
  pub filled : Filled A e z
  -- as long as want is left, nothing more can be taken so far
  pub exhausted : FullBelow A e m z ⊎ (goal ≤ total z)

-- One group more.
module _ (A : AwardSet) (e : Entries) (laws : Lawful 256 A) (ranged : Ranged e) (goal m : ℕ) (z : Award) (w : WorkedTo A e goal m z) where
  -- The group changes nothing below its level.
  group_below : (p : ℕ) → level e p < m → z p ≡ work_group A e goal m z p
  group_below p less = sym (group_only A e goal m z p (λ same. omega arith))

  -- Nothing is held above its level.
  group_support : (p : ℕ) → suc m ≤ level e p → work_group A e goal m z p ≡ 0
  group_support p above = group_only A e goal m z p (λ same. omega arith) ∙ w.support p (omega arith)

  -- The total does not fall.
  group_total : total z ≤ total (work_group A e goal m z)
  group_total = sum_le 256 z (work_group A e goal m z) (λ p _. group_grows A e goal m z p)

  -- Up to each level the award still lies there whole, or nothing more can be taken there.
  group_filled : Filled A e (work_group A e goal m z)
  group_filled l =
      let after = work_group A e goal m z in
      elim (cases_lt l m) [
        | inr above ↦ inl (inside_by_support e l after (λ p high. group_support p (omega arith)))
        | inl below ↦
            elim w.exhausted [
              | inl full ↦ inr (full_below_carried A e laws m z after group_below l below (full l below))
              | inr done ↦
                  elim (w.filled l) [
                    | inr full ↦ inr (full_below_carried A e laws m z after group_below l below full)
                    | inl inside ↦
                        let same = sum_same 256 (keep (up_to (level e) l) z) (keep (up_to (level e) l) after)
                        (λ k _. keep_same (up_to (level e) l) z after k (λ at. group_below k (omega (arith, leb-true (level e k) l at)))) in
                        inl (omega (arith, same, group_total, group_within_goal A e goal m z w.within_goal))
                  ]
            ]
      ]

  -- Where each place of the level is stuck and nothing more can be taken below it, nothing more can be taken up to it.
  group_full_here :
      FullBelow A e m z → ((p : ℕ) → p < 256 → level e p ≡ m → Stuck A e.capacity (work_group A e goal m z) p)
      → Full 256 (permitted A e) (up_to (level e) m) (work_group A e goal m z)
  group_full_here full stuck p h at =
      let after = work_group A e goal m z in
      let up = up_to (level e) m in
      let part : ℕ → Bool = up_to (level e) (level e p) in
      let caps = caps_keep_laws 256 e.capacity A laws in
      let le : level e p ≤ m = leb-true (level e p) m at in
      elim (cases_eq (level e p) m) [
        | inl same ↦
            lawful_ext 256 (permitted A e) (raise (keep up after) p 1) (raise after p 1) caps (λ k _. omega (arith, whole k)) ∙ stuck p h same
        | inr ne ↦
            higher_is_out 256 (permitted A e) (raise (keep part z) p 1) (raise (keep up after) p 1) caps
            (λ k _. omega (arith, lower (level e p) le k)) (full (level e p) (omega arith) p h (le-leb (level e p) (level e p) (omega arith)))
      ]
    where
      whole : (k : ℕ) → keep (up_to (level e) m) (work_group A e goal m z) k ≡ work_group A e goal m z k
      whole k =
          elim (cases_lt m (level e k)) [
            | inl above ↦ keep_outside (up_to (level e) m) (work_group A e goal m z) k (lt-leb (level e k) m above) ∙ sym (group_support k above)
            | inr below ↦ keep_at (up_to (level e) m) (work_group A e goal m z) k (le-leb (level e k) m below)
          ]

      lower : (l : ℕ) → l ≤ m → (k : ℕ) → keep (up_to (level e) l) z k ≤ keep (up_to (level e) m) (work_group A e goal m z) k
      lower l le k =
          elim (cases_lt l (level e k)) [
            | inl above ↦ omega (arith, keep_outside (up_to (level e) l) z k (lt-leb (level e k) l above))
            | inr below ↦ omega (arith, keep_at (up_to (level e) l) z k (le-leb (level e k) l below), whole k, group_grows A e goal m z k)
          ]

  -- As long as want is left, nothing more can be taken so far.
  group_exhausted : FullBelow A e (suc m) (work_group A e goal m z) ⊎ (goal ≤ total (work_group A e goal m z))
  group_exhausted =
      let after = work_group A e goal m z in
      elim w.exhausted [
        | inr done ↦ inr (omega (arith, group_total))
        | inl full ↦
            elim (group_full A e laws ranged goal m z (λ p same. w.support p (omega arith)) w.kept) [
              | inl done ↦ inr done
              | inr stuck ↦ inl (λ l less.
                  elim (cases_lt l m) [
                    | inl below ↦ full_below_carried A e laws m z after group_below l below (full l below)
                    | inr above ↦
                        let here : m ≡ l = omega arith in
                        subst (λ k. Full 256 (permitted A e) (up_to (level e) k) after) here (group_full_here full stuck)
                  ])
            ]
      ]

  -- One group more is worked.
  pub group_worked : WorkedTo A e goal (suc m) (work_group A e goal m z)
  group_worked = record {
    in_set = group_in A e laws ranged goal m z w.in_set;
    kept = group_keeps A e laws ranged goal m z (λ p same. w.support p (omega arith)) w.kept;
    support = group_support;
    within_goal = group_within_goal A e goal m z w.within_goal;
    filled = group_filled;
    exhausted = group_exhausted;
  }

-- The groups of a segment, one after the other.
module _ (A : AwardSet) (e : Entries) (laws : Lawful 256 A) (ranged : Ranged e) (goal low : ℕ) (s : Swept) where
  -- Group by group, all are worked.
  pub sweep_worked : WorkedTo A e goal low s.award → (n : ℕ) → WorkedTo A e goal (low + n) (sweep A e goal low n s).award
  unfolding sweep
  sweep_worked w zero = let same : low ≡ low + 0 = omega arith in subst (λ m. WorkedTo A e goal m s.award) same w
  sweep_worked w (suc n) =
      let t = sweep A e goal low n s in
      let same : suc (low + n) ≡ low + suc n = omega arith in
      subst (λ m. WorkedTo A e goal m (work_group A e goal (low + n) t.award)) same (group_worked A e laws ranged goal (low + n) t.award (sweep_worked w n))

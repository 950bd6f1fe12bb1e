-- The sellers' sequence swept level by level, from the group at one level to the next.
use Rattle.std.proofs.Common.{◌≡◌, ℕ, zero, suc, ◌+◌, ◌-◌, ◌*◌, ◌/◌, ◌<◌, ◌≤◌, cond, ltb, ◌⊎◌, List, [], length, get_or, take, drop, sym, ap, ◌∙◌, add-zero, add-suc, arith}
use Rattle.std.proofs.lemmas.Bool.{le-ltb}
use Rattle.lawful.specs.Awards.{Award, AwardSet}
use Rattle.market.specs.declared.tiers.Tier.{Tier}
use Rattle.outcome.specs.Entries.{Entries}
use Rattle.outcome.specs.Groups.{total, members, first_round, second_round, work_tiers, work_group}
use Rattle.outcome.specs.Outcome.{Swept, sweep}
use Rattle.clearing.specs.Awarded.{places_of, capacities_of}
use Rattle.clearing.specs.Sequence.{SequenceFrom, level_of, swept_from}
use Rattle.clearing.proofs.Collecting.{class_small, some_tier}
use Rattle.clearing.proofs.Runs.{levels_rise, no_members, run_is_members, run_capacities, run_leaves, above_end}

-- what the group at a level makes of an award and a price
abbrev after_group : Swept → ℕ → Award → Swept
after_group t l z = swept_from z (cond (ltb (total t.award) (total z)) (l / 8) t.price)

module _ (A : AwardSet) (e : Entries) (goal : ℕ) where
  -- A group with no member takes nothing.
  empty_group : (l : ℕ) (z : Award) → members e l ≡ [] → work_group A e goal l z ≡ z
  unfolding first_round second_round
  empty_group l z none = rw none

  module _ (low : ℕ) (s : Swept) where
    -- The last group of a sweep.
    sweep_group : (l : ℕ) → low ≤ l → sweep A e goal low (suc l - low) s ≡ after_group (sweep A e goal low (l - low) s) l (work_group A e goal l (sweep A e goal low (l - low) s).award)
    unfolding sweep
    sweep_group l le =
        let n : suc l - low ≡ suc (l - low) = omega arith in
        let at : low + (l - low) ≡ l = omega arith in
        let t = sweep A e goal low (l - low) s in
        ap (λ k. sweep A e goal low k s) n ∙ ap (λ k. after_group t k (work_group A e goal k t.award)) at

    -- A level with no member leaves a sweep as it is.
    sweep_skips_one : (l : ℕ) → low ≤ l → members e l ≡ [] → sweep A e goal low (suc l - low) s ≡ sweep A e goal low (l - low) s
    sweep_skips_one l le none =
        let t = sweep A e goal low (l - low) s in
        sweep_group l le ∙ ap (after_group t l) (empty_group l t.award none) ∙ rw (le-ltb (total t.award) (total t.award) (omega arith))

    -- So do k levels from m on, and those from m up to n.
    sweep_skips : (m k : ℕ) → low ≤ m → ((l : ℕ) → m ≤ l → l < m + k → members e l ≡ []) → sweep A e goal low ((m + k) - low) s ≡ sweep A e goal low (m - low) s
    sweep_skips m zero le none = rw add-zero
    sweep_skips m (suc k) le none =
        let one : sweep A e goal low (suc (m + k) - low) s ≡ sweep A e goal low ((m + k) - low) s = sweep_skips_one (m + k) (omega arith) (none (m + k) (omega arith) (omega arith)) in
        rw add-suc (one ∙ sweep_skips m k le (λ l a b. none l a (omega arith)))

    sweep_gap : (m n : ℕ) → low ≤ m → m ≤ n → ((l : ℕ) → m ≤ l → l < n → members e l ≡ []) → sweep A e goal low (n - low) s ≡ sweep A e goal low (m - low) s
    sweep_gap m n le up none =
        let n-is : n ≡ m + (n - m) = omega arith in
        ap (λ k. sweep A e goal low (k - low) s) n-is ∙ sweep_skips m (n - m) le (λ l a b. none l a (omega arith))

-- The groups from the level `low` on are worked up to some level, at most `top`: the award and the price are those of the sweep, and the tiers above are left.
pub record WorkedTo (A : AwardSet) (e : Entries) (goal low top : ℕ) (start : Award) (left : List Tier) (z : Award) (price : ℕ) : Type 0 where
  pub level : ℕ
  pub from : low ≤ level
  pub within : level ≤ top
  pub above : SequenceFrom e level left
  pub swept : sweep A e goal low (level - low) (swept_from start 0) ≡ swept_from z price

module _ (A : AwardSet) (e : Entries) (goal low top : ℕ) (start : Award) where
  -- At the start nothing is worked.
  pub worked_none : (ts : List Tier) → SequenceFrom e low ts → low ≤ top → WorkedTo A e goal low top start ts start 0
  unfolding sweep
  worked_none ts s le =
      let none : low - low ≡ 0 = omega arith in
      record { level = low; from = omega arith; within = le; above = s; swept = ap (λ n. sweep A e goal low n (swept_from start 0)) none }

  module _ (ts : List Tier) (z : Award) (price : ℕ) (so_far : WorkedTo A e goal low top start ts z price) where
    -- Up to a level that every tier left reaches, a sweep takes nothing more.
    sweep_on : (l : ℕ) → so_far.level ≤ l → ((k : ℕ) (d : Tier) → k < length ts → l ≤ level_of (get_or ts k d)) → sweep A e goal low (l - low) (swept_from start 0) ≡ swept_from z price
    sweep_on l le reach =
        sweep_gap A e goal low (swept_from start 0) so_far.level l so_far.from le
        (λ n a b. no_members e so_far.level ts n so_far.above a (λ k d lk q. let no : ⊥ = omega (arith, reach k d lk) in no))
        ∙ so_far.swept

    -- The group at the front, all at the level l, is worked next: what it takes, with the landed offer as the price if it took anything.
    pub worked_run :
        (j l : ℕ) → 0 < j → j ≤ length ts → l < top → ((d : Tier) → level_of (get_or ts 0 d) ≡ l)
        → ((k : ℕ) (d : Tier) → k < j → level_of (get_or ts k d) ≡ level_of (get_or ts 0 d))
        → (j ≡ length ts) ⊎ ((d : Tier) → level_of (get_or ts j d) ≡ level_of (get_or ts 0 d) → ⊥)
        → (y : Award) (p : ℕ) → y ≡ work_tiers A goal (places_of (take j ts)) (capacities_of (take j ts)) z → p ≡ cond (ltb (total z) (total y)) (l / 8) price
        → WorkedTo A e goal low top start (drop j ts) y p
    worked_run j l lt within below at-l same ends y p y-is p-is =
        let s = so_far.above in
        let in-ts : 0 < length ts = omega arith in
        let d = some_tier ts 0 in-ts in
        let from-level : so_far.level ≤ l = omega (arith, s.from 0 d in-ts, at-l d) in
        let here : (k : ℕ) (f : Tier) → k < j → level_of (get_or ts k f) ≡ l = λ k f lk. same k f lk ∙ at-l f in
        let after = above_end e so_far.level ts s j l lt within at-l ends in
        let reach : (k : ℕ) (f : Tier) → k < length ts → l ≤ level_of (get_or ts k f) = λ k f lk. omega (arith, levels_rise e so_far.level ts s 0 k f (omega arith) lk, at-l f) in
        let places = run_is_members e so_far.level ts s j within l from-level here after in
        let capacities = run_capacities e so_far.level ts s j within l from-level here after in
        let run_is_group : work_tiers A goal (places_of (take j ts)) (capacities_of (take j ts)) z ≡ work_group A e goal l z =
        ap (λ ps. work_tiers A goal ps (capacities_of (take j ts)) z) places ∙ ap (λ cs. work_tiers A goal (members e l) cs z) capacities in
        record {
          level = suc l;
          from = omega (arith, from-level, so_far.from);
          within = below;
          above = run_leaves e so_far.level ts s j within l from-level here after;
          swept =
              sweep_group A e goal low (swept_from start 0) l (omega (arith, from-level, so_far.from))
              ∙ ap (λ t. after_group t l (work_group A e goal l t.award)) (sweep_on l from-level reach)
              ∙ ap (after_group (swept_from z price) l) (sym (y-is ∙ run_is_group))
              ∙ ap (swept_from y) (sym p-is);
        }

    -- Where the first tier left is at or above the top, all is worked.
    pub worked_all : ((d : Tier) → 0 < length ts → top ≤ level_of (get_or ts 0 d)) → SequenceFrom e top ts × (sweep A e goal low (top - low) (swept_from start 0) ≡ swept_from z price)
    worked_all first =
        let s = so_far.above in
        let reach : (k : ℕ) (d : Tier) → k < length ts → top ≤ level_of (get_or ts k d) = λ k d lk. omega (arith, levels_rise e so_far.level ts s 0 k d (omega arith) lk, first d (omega arith)) in (
          record { rising = s.rising; each = s.each; placed = s.placed; from = reach; all = λ p lp c le. s.all p lp c (omega (arith, so_far.within)) },
          sweep_on top so_far.within reach,
        )

-- The level of a tier tells its landed offer.
pub level_landed : (t : Tier) → level_of t / 8 ≡ t.landed.fen
level_landed t = omega (arith, class_small t.class)

-- A tier that lands within a bid is below the first level above the bid, and one that lands above it is not.
pub lands_within : (t : Tier) (bid : ℕ) → t.landed.fen ≤ bid → level_of t < 8 * suc bid
lands_within t bid le = omega (arith, class_small t.class)

pub lands_above : (t : Tier) (bid : ℕ) → bid < t.landed.fen → 8 * suc bid ≤ level_of t
lands_above t bid lt = omega arith

-- Equal sets and goals are worked alike.
pub same_work :
    {A B : AwardSet} {a b : ℕ} (y z : Award) (ps cs : List ℕ) → A ≡ B → a ≡ b → y ≡ work_tiers A a ps cs z → y ≡ work_tiers B b ps cs z
same_work {A} {B} {a} {b} y z ps cs sets goals is = is ∙ ap (λ S. work_tiers S a ps cs z) sets ∙ ap (λ n. work_tiers B n ps cs z) goals

-- What a walk to the root has found and left at the corridors that it has passed.
use Rattle.std.proofs.Common.{◌≡◌, ℕ, ◌+◌, ◌-◌, ◌<◌, ◌≤◌, min, true, cond, ◌&&◌, ltb, List, length, get_or, set, ap, ◌∙◌, inl, inr, arith}
use Rattle.std.proofs.lemmas.List.{length-set, get_or-set_same, get_or-set_other}
use Rattle.std.proofs.lemmas.Bool.{cases_Bool, cases_eq, lt-ltb, le-ltb, cond-false, and_right}
use Rattle.std.proofs.lemmas.Bool.Decides.{nat_tests}
use Rattle.corridors.specs.ByCorridor.{corridor_count, below}
use Rattle.corridors.specs.Trees.{Falling, LeftAbove}
use Rattle.corridors.specs.Chains.{above_is_lower, walk_begins, walk_goes_on, walk_skips}

-- The walk from d has come to `at`: of each corridor that it passed at least `least` is left, and no greater number up to 20,000 is left of all of the walk.
pub record Least (left parents : List ℕ) (d at least : ℕ) : Type 0 where
  pub on_walk : below parents corridor_count d at ≡ true
  pub known : at < corridor_count
  pub few : least ≤ 20000
  pub kept : (c : ℕ) → below parents corridor_count d c ≡ true → at < c → least ≤ get_or left c 0
  pub most : (q : ℕ) → q ≤ 20000 → LeftAbove left parents d q → q ≤ least

-- The walk from d has come to `at`, and has lowered by q what was left of each corridor that it passed.
pub record Lowered (before left parents : List ℕ) (d at q : ℕ) : Type 0 where
  pub on_walk : below parents corridor_count d at ≡ true
  pub known : at < corridor_count
  pub long : length left ≡ corridor_count
  pub same : (c : ℕ) → get_or left c 0 + cond (below parents corridor_count d c && ltb at c) q 0 ≡ get_or before c 0

module _ (parents : List ℕ) (falling : Falling parents) (d : ℕ) (known : d < corridor_count) where
  pub least_begins : (left : List ℕ) → Least left parents d d 20000
  least_begins left =
      record {
        on_walk = walk_begins parents falling d known;
        known = known;
        few = omega arith;
        kept = λ c h l. absurd (omega (arith, above_is_lower parents falling 32 d c h));
        most = λ q l h. l;
      }

  pub least_goes_on : (left : List ℕ) (at least : ℕ) → 0 < at → Least left parents d at least → Least left parents d (get_or parents at 0) (min (get_or left at 0) least)
  least_goes_on left at least l w =
      let f = falling at l in
      record {
        on_walk = walk_goes_on parents falling d known at l w.on_walk;
        known = omega arith;
        few = omega arith;
        kept =
            λ c h k.
            elim (cases_eq c at) [ inl e ↦ rw e (omega arith) | inr ne ↦ omega (arith, w.kept c h (omega (arith, walk_skips parents falling d known at c l w.on_walk h k))) ];
        most = λ q k h. omega (arith, w.most q k h, h at w.on_walk);
      }

  -- Come to the root, the walk leaves out no corridor.
  pub least_of_all : (left : List ℕ) (least : ℕ) → Least left parents d 0 least → LeftAbove left parents d (min (get_or left 0 0) least)
  least_of_all left least w c h = elim (cases_eq c 0) [ inl e ↦ rw e (omega arith) | inr ne ↦ omega (arith, w.kept c h (omega arith)) ]

  pub most_of_all : (left : List ℕ) (least : ℕ) → Least left parents d 0 least → (q : ℕ) → q ≤ 20000 → LeftAbove left parents d q → q ≤ min (get_or left 0 0) least
  most_of_all left least w q k h = omega (arith, w.most q k h, h 0 w.on_walk)

  pub lowered_begins : (left : List ℕ) (q : ℕ) → length left ≡ corridor_count → Lowered left left parents d d q
  lowered_begins left q long =
      record {
        on_walk = walk_begins parents falling d known;
        known = known;
        long = long;
        same = λ c. elim (cases_Bool (below parents 32 d c)) [ inl e ↦ rw (e, le-ltb d c (above_is_lower parents falling 32 d c e)) (omega arith) | inr e ↦ rw e (omega arith) ];
      }

  module _ (before left : List ℕ) (at q : ℕ) (enough : LeftAbove before parents d q) (w : Lowered before left parents d at q) where
    -- At the corridor that it has come to the walk has lowered nothing yet.
    not_lowered : get_or left at 0 ≡ get_or before at 0
    not_lowered =
        omega (arith, w.same at, cond-false (below parents 32 d at && ltb at at) q 0 (and_right (below parents 32 d at) (ltb at at) (le-ltb at at (omega arith))))

    -- So much is left there that it can be lowered.
    lowered_enough : q ≤ get_or left at 0
    lowered_enough = omega (arith, not_lowered, enough at w.on_walk)

    -- Lowered there, it holds q less than at the start; elsewhere nothing changes.
    lower_at : get_or (set left at (get_or left at 0 - q)) at 0 + q ≡ get_or before at 0
    lower_at = omega (arith, get_or-set_same left at (get_or left at 0 - q) 0 (omega (arith, w.long, w.known)), lowered_enough, not_lowered)

    lower_elsewhere : (c : ℕ) → (c ≡ at → ⊥) → get_or (set left at (get_or left at 0 - q)) c 0 + cond (below parents 32 d c && ltb at c) q 0 ≡ get_or before c 0
    lower_elsewhere c ne = omega (arith, get_or-set_other left at c (get_or left at 0 - q) 0 ne, w.same c)

    -- One step further the walk has passed one corridor more.
    passed_elsewhere : (c : ℕ) → 0 < at → (c ≡ at → ⊥) → (below parents 32 d c && ltb (get_or parents at 0) c) ≡ (below parents 32 d c && ltb at c)
    passed_elsewhere c l ne =
        let f = falling at l in
        elim (cases_Bool (below parents 32 d c)) [
          | inl e ↦ let s = walk_skips parents falling d known at c l w.on_walk e in rw e (grind (arith, nat_tests))
          | inr e ↦ rw e
        ]

    pub lowered_goes_on : 0 < at → Lowered before (set left at (get_or left at 0 - q)) parents d (get_or parents at 0) q
    lowered_goes_on l =
        let f = falling at l in
        record {
          on_walk = walk_goes_on parents falling d known at l w.on_walk;
          known = omega (arith, w.known);
          long = length-set left at (get_or left at 0 - q) ∙ w.long;
          same =
              λ c.
              elim (cases_eq c at) [ inl e ↦ rw (e, w.on_walk, lt-ltb (get_or parents at 0) at f) lower_at | inr ne ↦ rw (passed_elsewhere c l ne) (lower_elsewhere c ne) ];
        }

  -- Come to the root and having lowered it too, the walk has lowered every corridor that it had to.
  pub lowered_ends : (before left : List ℕ) (q : ℕ) → LeftAbove before parents d q → Lowered before left parents d 0 q
      → (c : ℕ) → get_or (set left 0 (get_or left 0 0 - q)) c 0 + cond (below parents corridor_count d c) q 0 ≡ get_or before c 0
  lowered_ends before left q enough w c =
      elim (cases_eq c 0) [
        | inl e ↦ rw (e, w.on_walk) (lower_at before left 0 q enough w)
        | inr ne ↦
            let all-passed : (below parents 32 d c && ltb 0 c) ≡ below parents 32 d c = grind (arith, nat_tests) in
            omega (arith, lower_elsewhere before left 0 q enough w c ne, ap (λ b. cond b q 0) all-passed)
      ]

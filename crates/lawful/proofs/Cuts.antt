-- Limits that keep the laws: a cap for each place, a limit on the total, what is left on top of an award, and sums by class.
use Rattle.std.proofs.Common.{◌≡◌, ℕ, ◌+◌, ◌<◌, ◌≤◌, Bool, true, cond, eqb, leb, ap, ◌∙◌, inl, inr, arith}
use Rattle.std.proofs.lemmas.Bool.{and_parts, and_from, leb-true, le-leb, eqb-true, cases_eq}
use Rattle.lawful.specs.Sums.{sum_to, all_below}
use Rattle.lawful.specs.Awards.{Award, AwardSet, zero_award, raise, plus, keep, by_class}
use Rattle.lawful.specs.Lawful.{capped, limited, CapsKeepLaws, TotalLimitKeepsLaws, AboveKeepsLaws, SumsByClassKeepLaws}
use Rattle.lawful.proofs.Sums.{sum_le, sum_plus, sum_zeros, less_somewhere, all_below_at, all_below_from}
use Rattle.lawful.proofs.Awards.{raise_at, raise_elsewhere, sum_raise, keep_less, within_le, within_zero, within_raise, eqb_swap, sum_by_class}

-- A capped member is a member.
pub capped_in : (n : ℕ) (cap : ℕ → ℕ) (A : AwardSet) (x : Award) → capped n cap A x ≡ true → A x ≡ true
capped_in n cap A x h = (and_parts (A x) (all_below n (λ p. leb (x p) (cap p))) h).0

-- A capped member keeps the cap of each place.
pub capped_at : (n : ℕ) (cap : ℕ → ℕ) (A : AwardSet) (x : Award) → capped n cap A x ≡ true → (p : ℕ) → p < n → x p ≤ cap p
capped_at n cap A x h p l =
    leb-true (x p) (cap p) (all_below_at n (λ p. leb (x p) (cap p)) (and_parts (A x) (all_below n (λ p. leb (x p) (cap p))) h).1 p l)

-- A member that keeps the cap of each place is a capped one.
pub capped_from : (n : ℕ) (cap : ℕ → ℕ) (A : AwardSet) (x : Award) → A x ≡ true → ((p : ℕ) → p < n → x p ≤ cap p) → capped n cap A x ≡ true
capped_from n cap A x h caps =
    and_from (A x) (all_below n (λ p. leb (x p) (cap p))) h (all_below_from n (λ p. leb (x p) (cap p)) (λ p l. le-leb (x p) (cap p) (caps p l)))

-- Raised by one at a place where another award holds more, an award keeps each cap that both keep.
raise_keeps_cap : (x y : Award) (p c k : ℕ) → x p < y p → x k ≤ c → y k ≤ c → raise x p 1 k ≤ c
raise_keeps_cap x y p c k less lx ly =
    elim (cases_eq k p) [ inl e ↦ rw e (let l : y p ≤ c = rw e at ly in omega (arith, raise_at x p 1)) | inr ne ↦ omega (arith, raise_elsewhere x p 1 k ne) ]

-- A cap for each place keeps the laws: the place that is raised holds less than in the other member, and so less than its cap.
pub caps_keep_laws : CapsKeepLaws
caps_keep_laws n cap A laws =
    record {
      zero_in = capped_from n cap A zero_award laws.zero_in (λ p l. omega arith);
      lower = λ x y h in-y. capped_from n cap A x (laws.lower x y h (capped_in n cap A y in-y)) (λ p l. omega (arith, h p l, capped_at n cap A y in-y p l));
      exchange = λ x y in-x in-y less.
          let e = laws.exchange x y (capped_in n cap A x in-x) (capped_in n cap A y in-y) less in
          (e.0, e.1, e.2, capped_from n cap A (raise x e.0 1) e.3 (λ k l. raise_keeps_cap x y e.0 (cap k) k e.2 (capped_at n cap A x in-x k l) (capped_at n cap A y in-y k l)));
    }

-- A limited member is a member.
pub limited_in : (n limit : ℕ) (A : AwardSet) (x : Award) → limited n limit A x ≡ true → A x ≡ true
limited_in n limit A x h = (and_parts (A x) (leb (sum_to n x) limit) h).0

-- A limited member keeps the limit.
pub limited_sum : (n limit : ℕ) (A : AwardSet) (x : Award) → limited n limit A x ≡ true → sum_to n x ≤ limit
limited_sum n limit A x h = leb-true (sum_to n x) limit (and_parts (A x) (leb (sum_to n x) limit) h).1

-- A member that keeps the limit is a limited one.
pub limited_from : (n limit : ℕ) (A : AwardSet) (x : Award) → A x ≡ true → sum_to n x ≤ limit → limited n limit A x ≡ true
limited_from n limit A x h l = and_from (A x) (leb (sum_to n x) limit) h (le-leb (sum_to n x) limit l)

-- One limit on the total keeps the laws: the raised total is no more than that of the other member.
pub total_limit_keeps_laws : TotalLimitKeepsLaws
total_limit_keeps_laws n limit A laws =
    record {
      zero_in = limited_from n limit A zero_award laws.zero_in (omega (arith, sum_zeros n));
      lower = λ x y h in-y. limited_from n limit A x (laws.lower x y h (limited_in n limit A y in-y)) (omega (arith, sum_le n x y h, limited_sum n limit A y in-y));
      exchange = λ x y in-x in-y less.
          let e = laws.exchange x y (limited_in n limit A x in-x) (limited_in n limit A y in-y) less in
          (e.0, e.1, e.2, limited_from n limit A (raise x e.0 1) e.3 (omega (arith, sum_raise n x e.0 1 e.1, limited_sum n limit A y in-y)));
    }

-- What is permitted on top of a member keeps the laws: the two awards are compared with that member under both.
pub above_keeps_laws : AboveKeepsLaws
above_keeps_laws n t A laws in-t =
    record {
      zero_in = laws.lower (plus zero_award t) t (λ p l. omega arith) in-t;
      lower = λ x y h in-y. laws.lower (plus x t) (plus y t) (λ p l. omega (arith, h p l)) in-y;
      exchange = λ x y in-x in-y less.
          let e = laws.exchange (plus x t) (plus y t) in-x in-y (omega (arith, sum_plus n x t, sum_plus n y t)) in
          let lt : x e.0 < y e.0 = omega (arith, e.2) in
          (e.0, e.1, lt, laws.lower (plus (raise x e.0 1) t) (raise (plus x t) e.0 1) (λ k l. omega arith) e.3);
    }

-- An award that is raised at a place is raised in the class of that place, and in no other.
pub by_class_raise : (n : ℕ) (f : ℕ → ℕ) (x : Award) (p q : ℕ) → p < n → (u : ℕ) → by_class n f (raise x p q) u ≡ raise (by_class n f x) (f p) q u
by_class_raise n f x p q l u =
    within_raise n (λ k. eqb (f k) u) x p q l ∙ ap (λ b. by_class n f x u + cond b q 0) (eqb_swap (f p) u)

-- A lawful set over the classes gives one over the places: in a class that holds less some place holds less.
pub sums_by_class_keep_laws : SumsByClassKeepLaws
sums_by_class_keep_laws n m f A classes laws =
    record {
      zero_in = laws.lower (by_class n f zero_award) zero_award (λ u l. omega (arith, within_zero n (λ p. eqb (f p) u))) laws.zero_in;
      lower = λ x y h in-y. laws.lower (by_class n f x) (by_class n f y) (λ u l. within_le n (λ p. eqb (f p) u) x y h) in-y;
      exchange = λ x y in-x in-y less.
          let e = laws.exchange (by_class n f x) (by_class n f y) in-x in-y (omega (arith, sum_by_class n m f x classes, sum_by_class n m f y classes)) in
          let P : ℕ → Bool = λ p. eqb (f p) e.0 in
          let d = less_somewhere n (keep P x) (keep P y) e.2 in
          let k = keep_less P x y d.0 d.2 in
          let same = eqb-true (f d.0) e.0 k.0 in
          (d.0, d.1, k.1, laws.lower (by_class n f (raise x d.0 1)) (raise (by_class n f x) e.0 1) (λ u l. rw (by_class_raise n f x d.0 1 d.1 u, same) (omega arith)) e.3);
    }

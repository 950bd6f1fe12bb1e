-- The checks of figures and offers, one element after the other.
use Rattle.std.proofs.Common.{◌≡◌, ℕ, zero, suc, ◌+◌, ◌<◌, ◌≤◌, Bool, true, false, ◌&&◌, ◌||◌, eqb, ltb, leb, List, [], ◌∷◌, map, length, get_or, take, drop, Some, MatchBool, sym, refl, ap, ◌∙◌, subst, inl, inr, arith}
use Rattle.std.specs.List.{list_all}
use Rattle.std.specs.List.Sorted.{IsNonDecreasing}
use Rattle.std.proofs.lemmas.Bool.{le-leb, lt-leb, and_from, or_parts, ltb-false, cases_Bool, cond-true, cond-false, eqb-true}
use Rattle.market.specs.Classes.{class_number, class_at, class_in, all_classes}
use Rattle.market.specs.Bands.{figures_of}
use Rattle.market.specs.Entries.{any_above, keeps_bands, figures_in, handed_over}
use Rattle.market.specs.declared.classes.Class.{Class}
use Rattle.market.specs.declared.entries.RawOffer.{RawOffer}
use Rattle.market.specs.declared.entries.UnitOffer.{UnitOffer}

-- Numbers that rise from a first one on.
abbrev rises_from : ℕ → List ℕ → Bool
rises_from before [] = true
rises_from before (x ∷ xs) = leb before x && rises_from x xs

and-false : (a : Bool) → (a && false) ≡ false
and-false true = refl
and-false false = refl

and_grouped : (a b c : Bool) → (a && (b && c)) ≡ ((a && b) && c)
and_grouped true b c = refl
and_grouped false b c = refl

-- Offers that keep to their bands rise over them and are 0 behind them.
keeps_bands_split : (bands before : ℕ) (offers : List ℕ) → keeps_bands bands before offers ≡ (rises_from before (take bands offers) && list_all (λ o. eqb o 0) (drop bands offers))
keeps_bands_split zero before [] = refl
keeps_bands_split (suc bands) before [] = refl
keeps_bands_split zero before (o ∷ os) = ap (λ t. eqb o 0 && t) (keeps_bands_split zero before os)
keeps_bands_split (suc bands) before (o ∷ os) =
    ap (λ t. leb before o && t) (keeps_bands_split bands o os)
    ∙ and_grouped (leb before o) (rises_from o (take bands os)) (list_all (λ x. eqb x 0) (drop bands os))

rises_is_true : (before : ℕ) (xs : List ℕ) → (0 < length xs → before ≤ get_or xs 0 0) → IsNonDecreasing xs → rises_from before xs ≡ true
rises_is_true before [] first up = refl
rises_is_true before (x ∷ xs) first up =
    and_from (leb before x) (rises_from x xs) (le-leb before x (first (omega arith)))
    (rises_is_true x xs (λ some. up 0 1 0 (omega arith) (omega (arith, some))) (λ i j d le lj. up (suc i) (suc j) d (omega (arith, le)) (omega (arith, lj))))

rises_is_false : (before : ℕ) (xs : List ℕ) (k : ℕ) → suc k < length xs → get_or xs (suc k) 0 < get_or xs k 0 → rises_from before xs ≡ false
rises_is_false before [] k lk fall = absurd (let no : ⊥ = omega arith in no)
rises_is_false before (x ∷ []) k lk fall = absurd (let no : ⊥ = omega arith in no)
rises_is_false before (x ∷ y ∷ ys) zero lk fall = ap (λ t. leb before x && (t && rises_from y ys)) (lt-leb x y fall) ∙ and-false (leb before x)
rises_is_false before (x ∷ y ∷ ys) (suc k) lk fall = ap (λ t. leb before x && t) (rises_is_false x (y ∷ ys) k (omega (arith, lk)) fall) ∙ and-false (leb before x)

-- What a test of order answers is whether the numbers rise from 0 on.
rises_from_zero : (xs : List ℕ) (r : Bool) → MatchBool r (IsNonDecreasing xs) ((k : ℕ) × (k + 1 < length xs) × ((d : ℕ) → get_or xs (k + 1) d < get_or xs k d)) → r ≡ rises_from 0 xs
rises_from_zero xs true up = sym (rises_is_true 0 xs (λ some. omega arith) up)
rises_from_zero xs false fall =
    let next : fall.0 + 1 ≡ suc fall.0 = omega arith in
    sym (rises_is_false 0 xs fall.0 (omega (arith, fall.1)) (subst (λ m. get_or xs m 0 < get_or xs fall.0 0) next (fall.2 0)))

module _ (bands : ℕ) (offers : List ℕ) (sorted : Bool)
    (answered : MatchBool sorted (IsNonDecreasing (take bands offers)) ((k : ℕ) × (k + 1 < length (take bands offers)) × ((d : ℕ) → get_or (take bands offers) (k + 1) d < get_or (take bands offers) k d))) where
  -- Offers that do not rise over the bands do not keep to them.
  pub falls : sorted ≡ false → false ≡ keeps_bands bands 0 offers
  falls e = sym (keeps_bands_split bands 0 offers ∙ ap (λ t. t && list_all (λ o. eqb o 0) (drop bands offers)) (sym (rises_from_zero (take bands offers) sorted answered) ∙ e))

  -- Those that rise keep to them if they are 0 behind.
  pub rest_decides : sorted ≡ true → list_all (λ o. eqb o 0) (drop bands offers) ≡ keeps_bands bands 0 offers
  rest_decides e = sym (keeps_bands_split bands 0 offers ∙ ap (λ t. t && list_all (λ o. eqb o 0) (drop bands offers)) (sym (rises_from_zero (take bands offers) sorted answered) ∙ e))

-- Where none is above the maximum, each is at most the maximum.
pub none_above : (m : ℕ) (xs : List ℕ) → any_above m xs ≡ false → (k : ℕ) → get_or xs k 0 ≤ m
none_above m [] e k = omega arith
none_above m (x ∷ xs) e zero = let h = or_parts (ltb m x) (any_above m xs) e in ltb-false m x h.0
none_above m (x ∷ xs) e (suc k) = let h = or_parts (ltb m x) (any_above m xs) e in none_above m xs h.1 k

-- Where neither a figure nor an offer is above its maximum, each offer is within.
pub offer_small : (t : Bool) (os : List ℕ) → false ≡ (t || any_above 1000 os) → (k : ℕ) → get_or os k 0 ≤ 1000
offer_small t os e k = none_above 1000 os (or_parts t (any_above 1000 os) (sym e)).1 k

-- A list of four, element by element.
pub four : (xs : List ℕ) → length xs ≡ 4 → get_or xs 0 0 ∷ get_or xs 1 0 ∷ get_or xs 2 0 ∷ get_or xs 3 0 ∷ [] ≡ xs
four [] e = absurd (let no : ⊥ = omega arith in no)
four (a ∷ []) e = absurd (let no : ⊥ = omega arith in no)
four (a ∷ b ∷ []) e = absurd (let no : ⊥ = omega arith in no)
four (a ∷ b ∷ c ∷ []) e = absurd (let no : ⊥ = omega arith in no)
four (a ∷ b ∷ c ∷ d ∷ []) e = refl
four (a ∷ b ∷ c ∷ d ∷ f ∷ xs) e = absurd (let no : ⊥ = omega arith in no)

class_told_in : (cs : List Class) (n : ℕ) (c : Class) → Some c ≡ class_in cs n → class_number c ≡ n
class_told_in [] n c e = absurd (let z : ◌≡◌ {A = ℕ} 0 1 = cc in let no : ⊥ = omega arith in no)
class_told_in (d ∷ ds) n c e =
    elim (cases_Bool (eqb (class_number d) n)) [
      | inl t ↦ let same : Some c ≡ Some d = e ∙ cond-true (eqb (class_number d) n) (Some d) (class_in ds n) t in
          let same_class : c ≡ d = cc in ap class_number same_class ∙ eqb-true (class_number d) n t
      | inr f ↦ class_told_in ds n c (e ∙ cond-false (eqb (class_number d) n) (Some d) (class_in ds n) f)
    ]

-- The class of a number has that number.
pub class_told : (n : ℕ) (c : Class) → Some c ≡ class_at n → class_number c ≡ n
class_told n c e = class_told_in all_classes n c e

abbrev raw_of : ℕ → ℕ → ℕ → ℕ → ℕ → ℕ → ℕ → ℕ → List ℕ → RawOffer
raw_of u g c n o w k p os = record { unit = u; grid = g; class = c; nameplate = n; own_derate = o; network_derate = w; kept_reserve = k; plan = p; offers = os }

-- An offer made of what was handed over, figure by figure, was handed over so.
pub handed_over_lem :
    (r : RawOffer) (o : UnitOffer) → o.unit.number ≡ r.unit → o.grid.number ≡ r.grid → class_number o.class ≡ r.class
    → figures_of o.figures ≡ figures_in r → map (λ x. x.yuan) o.offers ≡ r.offers → handed_over o ≡ r
handed_over_lem r o u g c f os =
    let n0 = ap (λ x. x.nameplate) f in let n1 = ap (λ x. x.own_derate) f in let n2 = ap (λ x. x.network_derate) f in
    let n3 = ap (λ x. x.kept_reserve) f in let n4 = ap (λ x. x.plan) f in
    let whole : raw_of o.unit.number o.grid.number (class_number o.class) o.figures.nameplate o.figures.own_derate o.figures.network_derate o.figures.kept_reserve o.figures.plan (map (λ x. x.yuan) o.offers)
    ≡ raw_of r.unit r.grid r.class r.nameplate r.own_derate r.network_derate r.kept_reserve r.plan r.offers = cc in
    whole

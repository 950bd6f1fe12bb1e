-- Collecting the tiers place by place, and putting them in rank.
use Rattle.std.proofs.Common.{◌≡◌, ℕ, ◌+◌, ◌*◌, ◌<◌, ◌≤◌, false, cond, eqb, ◌⊎◌, List, [], ◌∷◌, ◌++◌, length, get_or, take, set, Some, None, Option, sym, refl, ap, ◌∙◌, inl, inr, arith}
use Rattle.std.specs.List.Sorted.{IsPermutation}
use Rattle.std.specs.List.{swap}
use Rattle.std.proofs.ByRecursion.{all_from_every, every_from_all, has_get_or, all_shuffled, has_shuffled}
use Rattle.std.proofs.lemmas.List.{length_push, get_or_push, get_or_append_left, get_or_default, get_or-set_same, get_or-set_other, length-set, take_more_set}
use Rattle.std.proofs.lemmas.List.Sorted.{IsPermutation-keeps}
use Rattle.std.proofs.lemmas.Bool.{cases_eq, cases_order}
use Rattle.std.proofs.lemmas.Bool.Decides.{nat_tests}
use Rattle.market.specs.Classes.{class_number}
use Rattle.market.specs.Maxima.{place_count}
use Rattle.market.specs.Ranks.{Rank, ranks_before, InRank, tier_rank}
use Rattle.market.specs.declared.classes.Class.{Class}
use Rattle.market.specs.declared.classes.Class.TheVariants.{Hydro, Storage, Gas, LargeUltraLowCoal, SmallUltraLowCoal, LargeCoal, SmallCoal}
use Rattle.market.specs.declared.tiers.Tier.{Tier}
use Rattle.outcome.specs.Entries.{Entries, level}
use Rattle.outcome.specs.View.{figure_of, entries_of}
use Rattle.outcome.specs.declared.PointEntries.{PointEntries}
use Rattle.clearing.specs.Sequence.{Sequence, Collected, sellers_of, level_of, place_of}

-- the number of a class is below 8
pub class_small : (c : Class) → class_number c < 8
class_small Hydro = omega arith
class_small Storage = omega arith
class_small Gas = omega arith
class_small LargeUltraLowCoal = omega arith
class_small SmallUltraLowCoal = omega arith
class_small LargeCoal = omega arith
class_small SmallCoal = omega arith

module _ (e : Entries) (n : ℕ) (ts : List Tier) (h : Collected e n ts) where
  -- a place with no capacity adds no tier
  collected_skips : e.capacity n ≡ 0 → Collected e (n + 1) ts
  collected_skips z =
      record {
        rising = h.rising;
        each = λ i d l. let k = h.each i d l in (omega (arith, k.0), k.1, k.2, k.3);
        all = λ p l c.
            elim (cases_eq p n) [
              | inl q ↦ let no : ⊥ = omega (arith, ap e.capacity q) in absurd no
              | inr q ↦ h.all p (omega (arith, q)) c
            ];
      }

  -- the tier at the next place comes last
  collected_more : (t : Tier) → place_of t ≡ n → 0 < t.capacity → t.capacity ≡ e.capacity n → level_of t ≡ level e n → Collected e (n + 1) (ts ++ t ∷ [])
  collected_more t at pos same lev =
      let long = length_push ts t in
      let last = λ (d : Tier). get_or_push ts t d (length ts) refl in
      let front = λ (i : ℕ) (d : Tier) (l : i < length ts). get_or_append_left ts (t ∷ []) d i l in
      record {
        rising = λ i j d lt lj.
            let li : i < length ts = omega (arith, long) in
            elim (cases_eq j (length ts)) [
              | inl q ↦ rw (q, last d, front i d li) (omega (arith, (h.each i d li).0))
              | inr q ↦ let l : j < length ts = omega (arith, long, q) in rw (front i d li, front j d l) (h.rising i j d lt l)
            ];
        each = λ i d l.
            elim (cases_eq i (length ts)) [
              | inl q ↦ rw (q, last d) (omega arith, pos, same ∙ ap e.capacity (sym at), lev ∙ ap (level e) (sym at))
              | inr q ↦ let li : i < length ts = omega (arith, long, q) in let k = h.each i d li in rw (front i d li) (omega (arith, k.0), k.1, k.2, k.3)
            ];
        all = λ p l c.
            elim (cases_eq p n) [
              | inl q ↦ (length ts, omega (arith, long), λ d. ap place_of (last d) ∙ at ∙ sym q)
              | inr q ↦ let k = h.all p (omega (arith, q)) c in (k.0, omega (arith, long, k.1), λ d. ap place_of (front k.0 d k.1) ∙ k.2 d)
            ];
      }

module _ (tiers : List (Option Tier)) (n count : ℕ) (ranked : List Tier) (h : Collected (sellers_of tiers) n (take count ranked)) where
  -- the tier at the place n, set down after those before it
  pub collected_written :
      (t new : Tier) (count' : ℕ) (ranked' : List Tier) → Some t ≡ get_or tiers n None → count < length ranked → count' ≡ count + 1 → ranked' ≡ set ranked count new
      → 0 < t.capacity → place_of new ≡ n → new.capacity ≡ t.capacity → level_of new ≡ level_of t → Collected (sellers_of tiers) (n + 1) (take count' ranked')
  collected_written t new count' ranked' there l ec er pos at cap lev =
      rw (ec, er, take_more_set ranked count new l)
      (collected_more (sellers_of tiers) n (take count ranked) h new at (omega (arith, cap)) (cap ∙ ap (figure_of (λ x. x.capacity)) there)
      (lev ∙ ap (λ o. 8 * figure_of (λ x. x.landed.fen) o + figure_of (λ x. class_number x.class) o) there))

  -- no tier at the place n, or one of no capacity
  pub collected_kept :
      (o : Option Tier) (count' : ℕ) (ranked' : List Tier) → o ≡ get_or tiers n None → count' ≡ count → ranked' ≡ ranked
      → figure_of (λ x. x.capacity) o ≤ 0 → Collected (sellers_of tiers) (n + 1) (take count' ranked')
  collected_kept o count' ranked' there ec er none =
      rw (ec, er) (collected_skips (sellers_of tiers) n (take count ranked) h (omega (arith, ap (figure_of (λ x. x.capacity)) there)))

-- An exchange of two places, on the indices.
abbrev exchange : ℕ → ℕ → ℕ → ℕ
exchange a b k = cond (eqb k b) a (cond (eqb k a) b k)

exchange_below : (a b k n : ℕ) → a < n → b < n → k < n → exchange a b k < n
exchange_below a b k n la lb lk = grind (arith, nat_tests)

exchange_apart : (a b i j : ℕ) → exchange a b i ≡ exchange a b j → i ≡ j
exchange_apart a b i j h = grind (arith, nat_tests)

length_exchanged : (ts : List Tier) (a b : ℕ) → length (swap ts a b) ≡ length ts
length_exchanged [] a b = refl
length_exchanged (x ∷ xs) a b =
    let ts = x ∷ xs in
    length-set (set ts a (get_or ts b x)) b (get_or ts a x) ∙ length-set ts a (get_or ts b x)

get_or_exchanged : (ts : List Tier) (a b k : ℕ) (d : Tier) → a < length ts → b < length ts → get_or (swap ts a b) k d ≡ get_or ts (exchange a b k) d
get_or_exchanged [] a b k d la lb = absurd (omega arith)
get_or_exchanged (x ∷ xs) a b k d la lb =
    let ts = x ∷ xs in
    let once = set ts a (get_or ts b x) in
    let both = set once b (get_or ts a x) in
    elim (cases_eq k b) [
      | inl p ↦
          let to : a ≡ exchange a b k = grind (arith, nat_tests) in
          let l : b < length once = omega (arith, length-set ts a (get_or ts b x)) in
          ap (λ z. get_or both z d) p ∙ get_or-set_same once b (get_or ts a x) d l ∙ get_or_default ts a x d la ∙ ap (λ z. get_or ts z d) to
      | inr p ↦ get_or-set_other once b k (get_or ts a x) d p ∙ elim (cases_eq k a) [
        | inl q ↦
            let to : b ≡ exchange a b k = grind (arith, nat_tests) in
            ap (λ z. get_or once z d) q ∙ get_or-set_same ts a (get_or ts b x) d la ∙ get_or_default ts b x d lb ∙ ap (λ z. get_or ts z d) to
        | inr q ↦
            let to : k ≡ exchange a b k = grind (arith, nat_tests) in
            get_or-set_other ts a k (get_or ts b x) d q ∙ ap (λ z. get_or ts z d) to
      ]
    ]

-- no two tiers have one place
abbrev Apart : List Tier → Type 0
Apart ts = (i j : ℕ) (d : Tier) → i < length ts → j < length ts → place_of (get_or ts i d) ≡ place_of (get_or ts j d) → i ≡ j

apart_exchanged : (ts : List Tier) (a b : ℕ) → a < length ts → b < length ts → Apart ts → Apart (swap ts a b)
apart_exchanged ts a b la lb h i j d li lj e =
    let long = length_exchanged ts a b in
    let li' : i < length ts = omega (arith, long) in
    let lj' : j < length ts = omega (arith, long) in
    exchange_apart a b i j
    (h (exchange a b i) (exchange a b j) d (exchange_below a b i (length ts) la lb li') (exchange_below a b j (length ts) la lb lj')
    (sym (ap place_of (get_or_exchanged ts a b i d la lb)) ∙ e ∙ ap place_of (get_or_exchanged ts a b j d la lb)))

apart_shuffled : (ts us : List Tier) → IsPermutation ts us → Apart ts → Apart us
apart_shuffled ts us sh h = IsPermutation-keeps ts Apart h apart_exchanged us sh

apart_collected : (e : Entries) (n : ℕ) (ts : List Tier) → Collected e n ts → Apart ts
apart_collected e n ts h i j d li lj q =
    elim (cases_order i j) [
      | inl p ↦ p
      | inr (inl p) ↦ absurd (let no : ⊥ = omega (arith, h.rising i j d p lj) in no)
      | inr (inr p) ↦ absurd (let no : ⊥ = omega (arith, h.rising j i d p li) in no)
    ]

-- Of two ranks in order with different thirds, the level or else the third is lower.
strictly :
    (a b : Rank) → a.second < 8 → b.second < 8 → ranks_before b a ≡ false → (a.third ≡ b.third → ⊥)
    → (8 * a.first + a.second < 8 * b.first + b.second) ⊎ ((8 * a.first + a.second ≡ 8 * b.first + b.second) × (a.third < b.third))
strictly a b sa sb h n =
    elim (cases_order (8 * a.first + a.second) (8 * b.first + b.second)) [
      | inl p ↦
          let f : a.first ≡ b.first = omega arith in
          let s : a.second ≡ b.second = omega arith in
          let t : (b.third < a.third) → ⊥ = λ l. grind (arith, nat_tests) in
          inr (p, omega (arith, n, t))
      | inr (inl p) ↦ inl p
      | inr (inr p) ↦ absurd (grind (arith, nat_tests))
    ]

-- a list with an index has a tier
pub some_tier : (ts : List Tier) (i : ℕ) → i < length ts → Tier
some_tier [] i l = absurd (omega arith)
some_tier (t ∷ ts) i l = t

-- The tiers of all places, put in rank, are the sellers' sequence.
pub sequence_ranked : (e : Entries) (ts us : List Tier) → Collected e place_count ts → IsPermutation ts us → InRank tier_rank us → Sequence e us
sequence_ranked e ts us h sh ranked =
    let Stands : Tier → Type 0 = λ t. (place_of t < place_count) × (0 < t.capacity) × (t.capacity ≡ e.capacity (place_of t)) × (level_of t ≡ level e (place_of t)) in
    let apart = apart_shuffled ts us sh (apart_collected e place_count ts h) in
    let stands = every_from_all Stands us (all_shuffled Stands ts us sh (all_from_every Stands ts (λ k f _ lk. h.each k f lk))) in
    record {
      rising = λ i j d lt lj.
          strictly (tier_rank (get_or us i d)) (tier_rank (get_or us j d)) (class_small (get_or us i d).class) (class_small (get_or us j d).class) (ranked i j d lt lj)
          (λ q. let no : ⊥ = omega (arith, apart i j d (omega arith) lj q) in no);
      each = λ i d l. let s = stands i d (omega arith) l in (s.1, s.2, s.3);
      placed = λ i d l. (stands i d (omega arith) l).0;
      from = λ i d l. omega arith;
      all = λ p l c _.
          let s = h.all p l c in
          let first = some_tier ts s.0 s.1 in
          let k = has_shuffled ts us (get_or ts s.0 first) sh (has_get_or ts s.0 first s.1) in
          (k.0, k.1, λ d. ap place_of (k.2 d) ∙ s.2 first);
    }

-- The sellers' side is all that the sequence reads of the entries.
pub sequence_of_entries : (e : PointEntries) (ts : List Tier) → Sequence (sellers_of e.tiers) ts → Sequence (entries_of e) ts
sequence_of_entries e ts s = record { rising = s.rising; each = s.each; placed = s.placed; from = s.from; all = s.all }

-- The next bid is the least price at or above a number in the table of bids.
use Rattle.std.proofs.Common.{◌≡◌, ℕ, zero, suc, ◌<◌, ◌≤◌, min, true, false, ◌&&◌, ltb, leb, ◌⊎◌, List, [], ◌∷◌, length, get_or, Some, None, Option, is_some, MatchOption, unwrap_or, sym, refl, ap, ◌∙◌, subst, inl, inr, arith}
use Rattle.std.specs.List.{fold, filter_map, reduce, cons_option}
use Rattle.std.proofs.lemmas.Bool.{cases_Bool, cases_lt, and_parts, lt-ltb, ltb-true, le-leb, leb-true, both_ways}
use Rattle.market.specs.declared.tiers.Bid.{Bid}
use Rattle.outcome.specs.Entries.{some_bids}
use Rattle.outcome.specs.View.{figure_of, entries_of}
use Rattle.outcome.specs.declared.PointEntries.{PointEntries}
use Rattle.outcome.proofs.Bids.{bidder, bid_of_lem}
use Rattle.clearing.specs.Sequence.{NextBid, price_from}
use Rattle.clearing.proofs.Runs.{In}

-- The least of x and ys is one of them, and none is below it.
least_from : (x : ℕ) (ys : List ℕ) → In (fold min x ys) (x ∷ ys) × ((b : ℕ) → In b (x ∷ ys) → fold min x ys ≤ b)
least_from x [] = (inl refl, λ b i. elim i [ inl e ↦ omega (arith, e) | inr j ↦ absurd j ])
least_from x (y ∷ ys) =
    let rest = least_from (min x y) ys in (
      elim rest.0 [
        | inl e ↦ elim (cases_lt x y) [ inl l ↦ inl (omega (arith, e)) | inr l ↦ inr (inl (omega (arith, e))) ]
        | inr j ↦ inr (inr j)
      ],
      λ b i.
          elim i [
            | inl e ↦ omega (arith, rest.1 (min x y) (inl refl), e)
            | inr j ↦ elim j [ inl e ↦ omega (arith, rest.1 (min x y) (inl refl), e) | inr k ↦ rest.1 b (inr k) ]
          ],
    )

least_is : (ys : List ℕ) → MatchOption (reduce min ys) (ys ≡ []) (λ m. In m ys × ((b : ℕ) → In b ys → m ≤ b))
least_is [] = refl
least_is (y ∷ ys) = least_from y ys

module _ (h : Option Bid → Option ℕ) where
  in_cons : (r : Option ℕ) (xs : List ℕ) (b : ℕ) → In b xs → In b (cons_option r xs)
  in_cons None xs b i = i
  in_cons (Some y) xs b i = inr i

  -- What h gives of a slot stands in the list of all that it gives.
  given_in : (bs : List (Option Bid)) (k b : ℕ) → k < length bs → h (get_or bs k None) ≡ Some b → In b (filter_map h bs)
  given_in [] k b l e = absurd (let no : ⊥ = omega arith in no)
  given_in (o ∷ bs) zero b l e = subst (λ r. In b (cons_option r (filter_map h bs))) (sym e) (inl refl)
  given_in (o ∷ bs) (suc k) b l e = in_cons (h o) (filter_map h bs) b (given_in bs k b (omega arith) e)

  from_cons : (r : Option ℕ) (xs : List ℕ) (b : ℕ) → In b (cons_option r xs) → (r ≡ Some b) ⊎ In b xs
  from_cons None xs b i = inr i
  from_cons (Some y) xs b (inl e) = inl (ap Some (sym e))
  from_cons (Some y) xs b (inr i) = inr i

  in_given : (bs : List (Option Bid)) (b : ℕ) → In b (filter_map h bs) → (k : ℕ) × (k < length bs) × (h (get_or bs k None) ≡ Some b)
  in_given [] b i = absurd i
  in_given (o ∷ bs) b i =
      elim (from_cons (h o) (filter_map h bs) b i) [
        | inl e ↦ (0, omega arith, e)
        | inr j ↦ let d = in_given bs b j in (suc d.0, omega (arith, d.1), d.2)
      ]

-- A slot gives a price just where it has a need and bids that price, at or above `from`.
price_given : (from : ℕ) (o : Option Bid) → 0 < figure_of (λ b. b.need) o → from ≤ figure_of (λ b. b.price.fen) o → price_from from o ≡ Some (figure_of (λ b. b.price.fen) o)
price_given from None need high = absurd (let no : ⊥ = omega arith in no)
price_given from (Some b) need high = rw (lt-ltb 0 b.need need, le-leb from b.price.fen high) refl

price_told : (from : ℕ) (o : Option Bid) (m : ℕ) → price_from from o ≡ Some m → (0 < figure_of (λ b. b.need) o) × (from ≤ m) × (figure_of (λ b. b.price.fen) o ≡ m)
price_told from None m e = absurd (both_ways true (sym (ap is_some e)) refl)
price_told from (Some b) m e =
    elim (cases_Bool (ltb 0 b.need && leb from b.price.fen)) [
      | inl t ↦
          let parts = and_parts (ltb 0 b.need) (leb from b.price.fen) t in
          let price : b.price.fen ≡ m = ap (λ r. unwrap_or r 0) (rw t at e) in
          (ltb-true 0 b.need parts.0, omega (arith, leb-true from b.price.fen parts.1, price), price)
      | inr f ↦ absurd (both_ways true (sym (ap is_some (rw f at e))) refl)
    ]

module _ (e : PointEntries) (long : length e.bids ≡ 16) (from : ℕ) where
  -- A bid at or above `from` is among the prices given.
  bid_given : (b : ℕ) → from ≤ b → some_bids (entries_of e) b ≡ true → In b (filter_map (price_from from) e.bids)
  bid_given b low some =
      let d = bidder (entries_of e) b some in
      let slot = get_or e.bids d.0 None in
      given_in (price_from from) e.bids d.0 b (omega (arith, d.1, long)) (price_given from slot d.2 (omega (arith, d.3)) ∙ ap Some d.3)

  none_bids : (b : ℕ) → (In b (filter_map (price_from from) e.bids) → ⊥) → from ≤ b → some_bids (entries_of e) b ≡ false
  none_bids b not-in low = elim (cases_Bool (some_bids (entries_of e) b)) [ inl some ↦ absurd (not-in (bid_given b low some)) | inr none ↦ none ]

  next_is : (r : Option ℕ) → MatchOption r (filter_map (price_from from) e.bids ≡ []) (λ m. In m (filter_map (price_from from) e.bids) × ((b : ℕ) → In b (filter_map (price_from from) e.bids) → m ≤ b)) → NextBid (entries_of e) from r
  next_is None none = λ b low. none_bids b (λ i. rw none at i) low
  next_is (Some m) least =
      let d = in_given (price_from from) e.bids m least.0 in
      let told = price_told from (get_or e.bids d.0 None) m d.2 in
      let some = bid_of_lem (entries_of e) d.0 (omega (arith, d.1, long)) told.0 in
      (told.1, ap (some_bids (entries_of e)) (sym told.2) ∙ some, λ c low high. none_bids c (λ i. let no : ⊥ = omega (arith, least.1 c i) in no) low)

  -- The least price that the table gives is the next bid.
  pub next_bid_is : (r : Option ℕ) → r ≡ reduce min (filter_map (price_from from) e.bids) → NextBid (entries_of e) from r
  next_bid_is r is = rw is (next_is (reduce min (filter_map (price_from from) e.bids)) (least_is (filter_map (price_from from) e.bids)))

-- The open needs of a segment's buyers, and what they get of it.
use Rattle.std.proofs.Common.{◌≡◌, ℕ, zero, suc, ◌+◌, ◌-◌, ◌*◌, ◌<◌, ◌≤◌, cond, leb, List, length, get_or, sum, sym, refl, ap, ◌∙◌, subst, inl, inr, arith}
use Rattle.std.proofs.lemmas.List.{get_or_past}
use Rattle.std.proofs.lemmas.Bool.{cases_Bool, cases_lt, cond-true, cond-false}
use Rattle.std.proofs.lemmas.List.FromFn.{fill_by_all}
use Rattle.lawful.specs.Sums.{sum_to}
use Rattle.lawful.proofs.Sums.{sum_bound}
use Rattle.outcome.specs.Entries.{Entries}
use Rattle.outcome.specs.Outcome.{claims_from, claims}
use Rattle.outcome.proofs.Claims.{sum_of_entries, claims_long}
use Rattle.outcome.proofs.Cleared.{claim_at}

-- Claims go by the grids' bids, needs and what they got.
claims_from_same :
    (e f : Entries) (got got' : ℕ → ℕ) (b n g : ℕ)
    → ((k : ℕ) → k < g + n → (e.bid k ≡ f.bid k) × (e.need k ≡ f.need k) × (got k ≡ got' k))
    → claims_from e got b n g ≡ claims_from f got' b n g
unfolding claims_from
claims_from_same e f got got' b zero g same = refl
claims_from_same e f got got' b (suc n) g same =
    let here = same g (omega arith) in
    let rest = claims_from_same e f got got' b n (suc g) (λ k l. same k (omega arith)) in
    cc

-- Only the buyers' side of the entries counts.
pub claims_same :
    (e f : Entries) → ((g : ℕ) → e.bid g ≡ f.bid g) → ((g : ℕ) → e.need g ≡ f.need g)
    → (got : ℕ → ℕ) (b : ℕ) → claims e got b ≡ claims f got b
claims_same e f bids needs got b = claims_from_same e f got got b 16 0 (λ k l. (bids k, needs k, refl))

-- Only what the grids got counts.
pub claims_got_same :
    (e : Entries) (got got' : ℕ → ℕ) → ((g : ℕ) → g < 16 → got g ≡ got' g)
    → (b : ℕ) → claims e got b ≡ claims e got' b
claims_got_same e got got' same b = claims_from_same e e got got' b 16 0 (λ k l. (refl, refl, same k (omega arith)))

-- The claim of a grid.
pub claim_of : (e : Entries) (got : ℕ → ℕ) (b g : ℕ) → g < 16 → get_or (claims e got b) g 0 ≡ cond (leb b (e.bid g)) (e.need g - got g) 0
claim_of e got b g l =
    let same : 0 + g ≡ g = omega arith in
    claim_at e got b 16 0 g l ∙ ap (λ k. cond (leb b (e.bid k)) (e.need k - got k) 0) same

-- No grid claims more than it still needs.
pub claim_left : (e : Entries) (got : ℕ → ℕ) (b g : ℕ) → get_or (claims e got b) g 0 ≤ e.need g - got g
claim_left e got b g =
    elim (cases_lt g 16) [
      | inl l ↦
          elim (cases_Bool (leb b (e.bid g))) [
            | inl may ↦ omega (arith, claim_of e got b g l, cond-true (leb b (e.bid g)) (e.need g - got g) 0 may)
            | inr may-not ↦ omega (arith, claim_of e got b g l, cond-false (leb b (e.bid g)) (e.need g - got g) 0 may-not)
          ]
      | inr past ↦ omega (arith, get_or_past (claims e got b) g 0 (omega (arith, claims_long e got b 16 0)))
    ]

-- No grid claims more than its need.
pub claim_bounded : (e : Entries) (got : ℕ → ℕ) (b g : ℕ) → get_or (claims e got b) g 0 ≤ e.need g
claim_bounded e got b g = omega (arith, claim_left e got b g)

-- A table of the claims of all grids is the list of claims.
pub claims_made :
    (e : Entries) (got : ℕ → ℕ) (b : ℕ) (xs : List ℕ) → length xs ≡ 16 → ((g : ℕ) → g < 16 → get_or xs g 0 ≡ cond (leb b (e.bid g)) (e.need g - got g) 0) → xs ≡ claims e got b
claims_made e got b xs long each =
    let claim : ℕ → ℕ = λ g. cond (leb b (e.bid g)) (e.need g - got g) 0 in
    fill_by_all claim xs 16 0 long each ∙ sym (fill_by_all claim (claims e got b) 16 0 (claims_long e got b 16 0) (claim_of e got b))

-- Where no need is above m, the claims together keep within m for each grid.
pub claims_within : (e : Entries) (got : ℕ → ℕ) (b m : ℕ) → ((g : ℕ) → e.need g ≤ m) → sum (claims e got b) ≤ m * 16
claims_within e got b m small =
    let xs = claims e got b in
    let whole : sum_to 16 (λ g. get_or xs g 0) ≡ sum xs = subst (λ n. sum_to n (λ g. get_or xs g 0) ≡ sum xs) (claims_long e got b 16 0) (sum_of_entries xs) in
    omega (arith, whole, sum_bound 16 m (λ g. get_or xs g 0) (λ g l. omega (arith, claim_bounded e got b g, small g)))

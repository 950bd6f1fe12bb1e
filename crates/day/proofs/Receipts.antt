-- What a unit receives, band by band.
use Rattle.std.proofs.Common.{◌≡◌, ℕ, suc, ◌+◌, ◌-◌, ◌*◌, ◌<◌, ◌≤◌, List, [], ◌∷◌, length, sum_by, All, refl, ap, ◌∙◌, subst, ◌⊎◌, inl, inr, arith}
use Rattle.std.specs.List.{zip}
use Rattle.std.proofs.lemmas.List.Sums.{sum_by-cons}
use Rattle.market.specs.Landing.{deducted, landed}
use Rattle.market.specs.declared.figures.Charges.{Charges}
use Rattle.market.specs.declared.figures.Offer.{Offer}
use Rattle.clearing.specs.declared.points.Segment.{Segment}
use Rattle.day.specs.Amounts.{price_over, price_of, receipt_in}

-- Nothing stands beside nothing.
zip_none : (awards : List ℕ) (offers : List Offer) → (length awards ≡ 0) ⊎ (length offers ≡ 0) → zip awards offers ≡ []
zip_none [] offers none = refl
zip_none (a ∷ awards) [] none = refl
zip_none (a ∷ awards) (o ∷ offers) none = elim none [ inl e ↦ absurd (let no : ⊥ = omega (arith, e) in no) | inr e ↦ absurd (let no : ⊥ = omega (arith, e) in no) ]

module _ (charges : Charges) (segments : List Segment) (total : ℕ) where
  -- The bands that are left bring what is missing in the total, and the price covers what lies between in each that is awarded something.
  pub record Left (all : ℕ) (awards : List ℕ) (offers : List Offer) : Type 0 where
    pub missing : all + sum_by (receipt_in charges segments) (zip awards offers) ≡ total
    pub covered : All (λ band. 0 < band.0 → deducted charges ≤ price_of charges segments band.1) (zip awards offers)

  module _ (all award : ℕ) (offer : Offer) (awards : List ℕ) (offers : List Offer) (left : Left all (award ∷ awards) (offer ∷ offers)) where
    -- The next band is covered.
    next_covered : 0 < award → deducted charges ≤ price_of charges segments offer
    next_covered = left.covered 0 (award, offer) (omega arith)

    -- What it brings is missing.
    next_missing : all + receipt_in charges segments (award, offer) + sum_by (receipt_in charges segments) (zip awards offers) ≡ total
    next_missing = omega (arith, left.missing, sum_by-cons (receipt_in charges segments) (award, offer) (zip awards offers))

    -- Behind it the rest is left.
    next_left : Left (all + receipt_in charges segments (award, offer)) awards offers
    next_left = record { missing = next_missing; covered = λ k d l. left.covered (suc k) d (omega arith) }

  module _ (all award fen between : ℕ) (offer : Offer) (xs awards : List ℕ) (ys offers : List Offer)
      (left : Left all xs ys) (first : xs ≡ award ∷ awards) (second : ys ≡ offer ∷ offers)
      (lands : fen ≡ landed offer.yuan charges) (taken : between ≡ deducted charges) where
    here : Left all (award ∷ awards) (offer ∷ offers)
    here = subst (λ ws. Left all (award ∷ awards) ws) second (subst (λ ws. Left all ws ys) first left)

    -- The price read for the band's landed offer covers what is taken from it.
    pub covers : 0 < award → between ≤ price_over segments fen
    covers some = rw lands (rw taken (next_covered all award offer awards offers here some))

    brings : (n : ℕ) → n ≡ award * (price_over segments fen - between) → n ≡ receipt_in charges segments (award, offer)
    brings n is = is ∙ ap (λ f. award * (price_over segments f - between)) lands ∙ ap (λ b. award * (price_of charges segments offer - b)) taken

    -- What it brings fits below the total.
    pub brings_part : (n : ℕ) → n ≡ award * (price_over segments fen - between) → all + n ≤ total
    brings_part n is = omega (arith, brings n is, next_missing all award offer awards offers here)

    -- Once it is added, the rest is left.
    pub left_more : (n : ℕ) → n ≡ award * (price_over segments fen - between) → Left (all + n) awards offers
    left_more n is = rw (brings n is) (next_left all award offer awards offers here)

  -- Where no band is left, the total is reached.
  pub left_none : (all : ℕ) (awards : List ℕ) (offers : List Offer) → Left all awards offers → (length awards ≡ 0) ⊎ (length offers ≡ 0) → all ≡ total
  left_none all awards offers left none = omega (arith, left.missing, ap (sum_by (receipt_in charges segments)) (zip_none awards offers none))

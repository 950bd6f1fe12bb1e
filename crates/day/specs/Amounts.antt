-- What a post reads off the segments and the awards.
use Rattle.std.specs.Prelude.{ℕ, ◌-◌, ◌*◌, ◌<◌, ◌≤◌, cond, List, [], ◌∷◌, sum_by, nat_le, All}
use Rattle.std.specs.List.{zip}
use Rattle.market.specs.Landing.{deducted, landed}
use Rattle.market.specs.declared.figures.Charges.{Charges}
use Rattle.market.specs.declared.figures.Offer.{Offer}
use Rattle.clearing.specs.declared.points.Segment.{Segment}
use Rattle.day.specs.Shown.{among_grids}

-- what a grid is charged in a segment
abbrev pub charged_in : ℕ → Segment → ℕ
charged_in g s = among_grids s.shares g * s.price

-- what a grid is charged over these segments
abbrev pub charged_over : List Segment → ℕ → ℕ
charged_over segments g = sum_by (charged_in g) segments

-- the price of the first segment whose bid is at or above a landed offer, 0 where there is none
abbrev pub price_over : List Segment → ℕ → ℕ
price_over [] fen = 0
price_over (s ∷ ss) fen = cond (nat_le fen s.bid) s.price (price_over ss fen)

-- the price at which an offer is paid
abbrev pub price_of : Charges → List Segment → Offer → ℕ
price_of charges segments offer = price_over segments (landed offer.yuan charges)

-- what an award at an offer brings
abbrev pub receipt_in : Charges → List Segment → ℕ × Offer → ℕ
receipt_in charges segments band = band.0 * (price_of charges segments band.1 - deducted charges)

-- what a unit receives for its awards at its offers, by band
abbrev pub received_in : Charges → List Segment → List ℕ → List Offer → ℕ
received_in charges segments awards offers = sum_by (receipt_in charges segments) (zip awards offers)

-- Where a unit is awarded something, the price covers what lies between.
abbrev pub Covered : Charges → List Segment → List ℕ → List Offer → Type 0
Covered charges segments awards offers = All (λ band. 0 < band.0 → deducted charges ≤ price_of charges segments band.1) (zip awards offers)

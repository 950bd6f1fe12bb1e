-- What is read off the rows of segments, row by row.
use Rattle.std.proofs.Common.{◌≡◌, ℕ, ◌*◌, ◌≤◌, ltb, leb, List, [], ◌∷◌, get_or, refl, ap, ◌∙◌, zero-mul, arith}
use Rattle.std.specs.Prelude.{unwrap_or, option_map}
use Rattle.std.specs.List.{find}
use Rattle.std.proofs.lemmas.List.Sums.{sum_by-cons}
use Rattle.std.proofs.lemmas.Bool.{cond-false, le-ltb}
use Rattle.clearing.specs.declared.points.Segment.{Segment}
use Rattle.day.specs.Amounts.{charged_in, charged_over, price_over}
use Rattle.day.specs.Shown.{among_grids}

-- Nobody beyond the grids is charged.
pub charged_beyond : (segments : List Segment) (g : ℕ) → 16 ≤ g → charged_over segments g ≡ 0
charged_beyond [] g beyond = refl
charged_beyond (s ∷ ss) g beyond =
    let none : among_grids s.shares g ≡ 0 = cond-false (ltb g 16) (get_or s.shares g 0) 0 (le-ltb g 16 beyond) in
    sum_by-cons (charged_in g) s ss ∙ omega (arith, ap (λ n. n * s.price) none ∙ zero-mul s.price, charged_beyond ss g beyond)

-- The price that is read is that of the first row found at or above the landed offer.
pub price_found : (segments : List Segment) (fen : ℕ) → price_over segments fen ≡ unwrap_or (option_map (λ s. s.price) (find (λ s. leb fen s.bid) segments)) 0
price_found [] fen = refl
price_found (s ∷ ss) fen = grind (arith, price_found ss fen)

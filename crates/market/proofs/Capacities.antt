-- The capacities of a scheme's bands add up to the part of the stretch above its first edge.
use Rattle.std.proofs.Common.{◌≡◌, ℕ, zero, suc, ◌+◌, ◌-◌, ◌*◌, ◌/◌, ◌<◌, ◌≤◌, max, true, ltb, sum, ap, ◌∙◌, le_of_lt, mul-le-mul_left, mul-zero, mul-div_cancel, arith, lit<, lt-ltb}
use Rattle.std.proofs.lemmas.List.Sums.{sum_by-cons}
use Rattle.market.specs.Bands.{Scheme, Rising, Figures, top_of, edge_of, capacity_of, capacities_from, AddsUp, AddsUpFromZero}
use Rattle.market.proofs.Quotients.{div_mono}

-- The stretch ends at the nameplate or below.
pub top_le_nameplate : (f : Figures) → f.plan ≤ f.nameplate → top_of f ≤ f.nameplate
top_le_nameplate f h = omega arith

module _ (s : Scheme) (f : Figures) (law : Rising s) (planned : f.plan ≤ f.nameplate) where
  -- An edge lies no lower than the edge before.
  pub edge_rises : (k : ℕ) → k < s.bands → edge_of s f.nameplate k ≤ edge_of s f.nameplate (suc k)
  edge_rises k h = div_mono _ _ 100 (lit< tt) (mul-le-mul_left f.nameplate (le_of_lt (law.rises k h)))

  -- The last edge is the nameplate.
  pub last_edge : edge_of s f.nameplate s.bands ≡ f.nameplate
  last_edge = ap (λ p. f.nameplate * p / 100) law.ends ∙ mul-div_cancel f.nameplate (lit< tt)

  -- What the band k covers and what lies above it make up what lies above its lower edge.
  band_and_rest : (k : ℕ) → k < s.bands → capacity_of s f k + (top_of f - max f.plan (edge_of s f.nameplate (suc k))) ≡ top_of f - max f.plan (edge_of s f.nameplate k)
  band_and_rest k h =
      let e = edge_rises k h in
      let t : ltb k s.bands ≡ true = lt-ltb k s.bands h in
      rw t (omega arith)

  sum_from : (k m : ℕ) → k + m ≡ s.bands → sum (capacities_from s f k m) ≡ top_of f - max f.plan (edge_of s f.nameplate k)
  sum_from k zero e =
      let last : edge_of s f.nameplate k ≡ f.nameplate = ap (edge_of s f.nameplate) (omega (arith, e)) ∙ last_edge in
      let t = top_le_nameplate f planned in
      omega (arith, last)
  sum_from k (suc m) e =
      sum_by-cons (λ x. x) (capacity_of s f k) (capacities_from s f (suc k) m)
      ∙ ap (λ r. capacity_of s f k + r) (sum_from (suc k) m (omega (arith, e)))
      ∙ band_and_rest k (omega (arith, e))

  pub adds_up : AddsUp s f
  adds_up = sum_from 0 s.bands (omega arith)

  pub adds_up_from_zero : AddsUpFromZero s f
  adds_up_from_zero first =
      let low : edge_of s f.nameplate 0 ≡ 0 = ap (λ p. f.nameplate * p / 100) first ∙ ap (λ n. n / 100) (mul-zero f.nameplate) in
      adds_up ∙ omega (arith, low)

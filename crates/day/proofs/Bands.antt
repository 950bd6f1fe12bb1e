-- The four places of a unit: as a slice of all places, and as a sum.
use Rattle.std.proofs.Common.{◌≡◌, ℕ, zero, suc, ◌+◌, ◌-◌, ◌*◌, ◌<◌, ◌≤◌, List, length, get_or, take, drop, sum, sum_by, sym, ap, ◌∙◌, arith, length-take, length-drop}
use Rattle.std.specs.List.{zip}
use Rattle.std.proofs.lemmas.List.{get_or-take, get_or-drop, get_or_default, take_all}
use Rattle.std.proofs.lemmas.List.Sums.{sum_by_more}
use Rattle.std.proofs.lemmas.Slice.Zip.{get_or-zip, length-zip}
use Rattle.lawful.specs.Sums.{sum_to}
use Rattle.lawful.proofs.Sums.{sum_none, sum_suc, sum_same}

-- A sum over the first n entries of a list, by index.
sum_first : {X : Type 0} (f : X → ℕ) (xs : List X) (d : X) (n : ℕ) → n ≤ length xs → sum_by f (take n xs) ≡ sum_to n (λ k. f (get_or xs k d))
sum_first f xs d zero l = sym (sum_none (λ k. f (get_or xs k d)))
sum_first f xs d (suc n) l =
    let next : suc n ≡ n + 1 = omega arith in
    omega (
      arith,
      ap (λ m. sum_by f (take m xs)) next,
      sum_by_more f xs n d (omega arith),
      sum_first f xs d n (omega arith),
      sum_suc n (λ k. f (get_or xs k d)),
    )

-- The same over a list of n entries.
pub sum_of_all : {X : Type 0} (f : X → ℕ) (xs : List X) (d : X) (n : ℕ) → length xs ≡ n → sum_by f xs ≡ sum_to n (λ k. f (get_or xs k d))
sum_of_all f xs d n long = omega (arith, ap (sum_by f) (take_all n xs (omega arith)), sum_first f xs d n (omega arith))

-- the entries of a unit's four places
abbrev pub places_of : List ℕ → ℕ → List ℕ
places_of all u = take (4 * u + 4 - 4 * u) (drop (4 * u) all)

module _ (all : List ℕ) (u : ℕ) (places : length all ≡ 256) (within : u < 64) where
  four : 4 * u + 4 - 4 * u ≡ 4
  four = omega arith

  -- There are four.
  pub places_long : length (places_of all u) ≡ 4
  places_long = omega (arith, four, length-take (4 * u + 4 - 4 * u) (drop (4 * u) all), length-drop (4 * u) all)

  -- Each stands at its place among all.
  pub place_at : (band d : ℕ) → band < 4 → get_or (places_of all u) band d ≡ get_or all (4 * u + band) 0
  place_at band d small =
      get_or-take (4 * u + 4 - 4 * u) (drop (4 * u) all) band d (omega (arith, four))
      ∙ get_or-drop (4 * u) all band d
      ∙ get_or_default all (4 * u + band) d 0 (omega arith)

  -- They add up to the sum over the places.
  pub places_sum : sum (places_of all u) ≡ sum_to 4 (λ band. get_or all (4 * u + band) 0)
  places_sum =
      sum_of_all (λ x. x) (places_of all u) 0 4 places_long
      ∙ sum_same 4 (λ band. get_or (places_of all u) band 0) (λ band. get_or all (4 * u + band) 0) (λ band small. place_at band 0 small)

  module _ {X : Type 0} (others : List X) (as_many : length others ≡ 4) where
    -- Beside four others there are four pairs.
    pub pairs_long : length (zip (places_of all u) others) ≡ 4
    pairs_long = omega (arith, length-zip (places_of all u) others, places_long, as_many)

    pub pair_at : (band : ℕ) (d : ℕ × X) → band < 4 → get_or (zip (places_of all u) others) band d ≡ (get_or all (4 * u + band) 0, get_or others band d.1)
    pair_at band d small =
        get_or-zip (places_of all u) others band d (omega (arith, places_long)) (omega (arith, as_many))
        ∙ ap (λ a. (a, get_or others band d.1)) (place_at band d.0 small)

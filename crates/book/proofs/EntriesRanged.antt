-- The entries of every point are within their maxima.
use Rattle.std.proofs.Common.{◌≡◌, ℕ, ◌/◌, ◌%◌, ◌<◌, ◌≤◌, true, ltb, is_some, Some, None, Option, sym, refl, inl, inr, arith}
use Rattle.std.proofs.lemmas.Bool.{cases_Bool, both_ways}
use Rattle.market.specs.Bands.{Scheme, Figures, scheme_of, capacity_of}
use Rattle.market.specs.Classes.{class_number, class_at}
use Rattle.market.specs.Entries.{figures_in}
use Rattle.market.specs.declared.classes.Class.{Class}
use Rattle.market.specs.declared.classes.Class.TheVariants.{Hydro, Storage, Gas, LargeUltraLowCoal, SmallUltraLowCoal, LargeCoal, SmallCoal}
use Rattle.market.specs.declared.entries.RawOffer.{RawOffer}
use Rattle.market.proofs.Checked.{class_told}
use Rattle.outcome.specs.Entries.{Ranged}
use Rattle.outcome.specs.View.{figure_of}
use Rattle.book.specs.Views.{View, capacity_under, entries_in}
use Rattle.book.specs.Money.{grid_of}
use Rattle.book.proofs.Entered.{OfferKept, offer_kept, Entered}

-- A figure of what stands keeps a bound that 0 and each figure of it keep.
pub figure_keeps : {X : Type 0} (f : X → ℕ) (o : Option X) (m : ℕ) → ((x : X) → o ≡ Some x → f x ≤ m) → figure_of f o ≤ m
figure_keeps f None m h = omega arith
figure_keeps f (Some x) m h = h x refl

-- A band holds no more than the nameplate.
pub capacity_le_nameplate : (s : Scheme) (f : Figures) (k : ℕ) → capacity_of s f k ≤ f.nameplate
capacity_le_nameplate s f k = elim (cases_Bool (ltb k s.bands)) [ inl e ↦ rw e (omega arith) | inr e ↦ rw e (omega arith) ]

capacity_under_le : (o : Option Class) (r : RawOffer) (k : ℕ) → capacity_under o r k ≤ r.nameplate
capacity_under_le None r k = omega arith
capacity_under_le (Some c) r k = capacity_le_nameplate (scheme_of c) (figures_in r) k

-- The numbers of the classes are below 8.
pub class_number_small : (c : Class) → class_number c ≤ 7
class_number_small Hydro = omega arith
class_number_small Storage = omega arith
class_number_small Gas = omega arith
class_number_small LargeUltraLowCoal = omega arith
class_number_small SmallUltraLowCoal = omega arith
class_number_small LargeCoal = omega arith
class_number_small SmallCoal = omega arith

-- A number that is some class's is below 8.
pub class_small : (n : ℕ) → is_some (class_at n) ≡ true → n ≤ 7
class_small n some = by_class_number (class_at n) refl some
  where
    by_class_number : (o : Option Class) → o ≡ class_at n → is_some o ≡ true → n ≤ 7
    by_class_number None e some = absurd (both_ways true (sym some) refl)
    by_class_number (Some c) e some = omega (arith, class_told n c e, class_number_small c)

module _ (v : View) (w : Entered v) where
  -- An offer that stands keeps what an accepted one keeps.
  pub standing_kept : (u : ℕ) (r : RawOffer) → v.offers u ≡ Some r → OfferKept r
  standing_kept u r e = offer_kept r (w.offered u r e).0

  -- The entries are within their maxima.
  pub entries_ranged : Ranged (entries_in v)
  entries_ranged = record {
    capacities = λ p. figure_keeps (λ r. capacity_under (class_at r.class) r (p % 4)) (v.offers (p / 4)) 20000
        (λ r e. omega (arith, capacity_under_le (class_at r.class) r (p % 4), (standing_kept (p / 4) r e).nameplate));
    classes = λ p. let small = figure_keeps (λ r. r.class) (v.offers (p / 4)) 7 (λ r e. class_small r.class (standing_kept (p / 4) r e).class) in omega arith;
    bids = λ g. figure_keeps (λ b. b.price) (v.bids g) 200000 (λ b e. (w.asks g b e).0.price);
  }

  -- The grid of each unit is one of the grids.
  pub grid_small : (u : ℕ) → grid_of v u < 16
  grid_small u = let small = figure_keeps (λ r. r.grid) (v.offers u) 15 (λ r e. let g = (standing_kept u r e).grid in omega arith) in omega arith

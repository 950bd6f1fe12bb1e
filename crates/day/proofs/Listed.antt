-- Whether some entry of a table passes a test, as a search tells it and by the indices of the table.
use Rattle.std.proofs.Common.{◌≡◌, ℕ, ◌<◌, Bool, true, false, List, length, get_or, is_some, Some, None, Option, sym, refl, inl, inr, arith}
use Rattle.std.specs.Bool.{MatchBool}
use Rattle.std.specs.List.{AllWithin, HoldsAt}
use Rattle.std.proofs.lemmas.Bool.{cases_Bool, both_ways}
use Rattle.market.specs.declared.entries.UnitOffer.{UnitOffer}
use Rattle.outcome.specs.Entries.{any_below}
use Rattle.outcome.proofs.Bids.{any_below_from, any_below_at}
use Rattle.day.specs.Shown.{offered}

-- What a search for an entry that passes told is whether some index below the length has one.
pub any_told :
    {X : Type 0} (t : X → Bool) (xs : List X) (d : X) (n : ℕ) (r : Bool) → length xs ≡ n
    → MatchBool r ((k : ℕ) × (k < length xs) × HoldsAt (λ x. t x ≡ true) xs k) (AllWithin (λ x. t x ≡ false) xs 0 (length xs))
    → r ≡ any_below n (λ k. t (get_or xs k d))
any_told t xs d n true long h = sym (any_below_from n (λ k. t (get_or xs k d)) h.0 (omega (arith, h.1)) (h.2 d))
any_told t xs d n false long h =
    elim (cases_Bool (any_below n (λ k. t (get_or xs k d)))) [
      | inl some ↦
          let w = any_below_at n (λ k. t (get_or xs k d)) some in
          absurd (both_ways (t (get_or xs w.0 d)) (h w.0 d (omega arith) (omega (arith, w.1))) w.2)
      | inr none ↦ sym none
    ]

-- What is entered is offered.
pub offered_some : (o : Option UnitOffer) → is_some (offered o) ≡ is_some o
offered_some None = refl
offered_some (Some o) = refl

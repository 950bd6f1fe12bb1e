-- Over every lawful set the outcome of a clearing is worthy.
use Rattle.std.proofs.Common.{◌≡◌, ℕ, ◌+◌, ◌*◌, ◌<◌, Bool, true, ◌⊎◌, sym, ◌∙◌, inl, inr, arith}
use Rattle.std.proofs.lemmas.Bool.Decides.{nat_tests}
use Rattle.lawful.specs.Awards.{Award, AwardSet, raise, keep}
use Rattle.lawful.specs.Lawful.{Lawful}
use Rattle.lawful.specs.Worth.{Inside, Full, Most, up_to}
use Rattle.lawful.proofs.Awards.{within_same}
use Rattle.lawful.proofs.Rooms.{lawful_ext}
use Rattle.lawful.proofs.Cuts.{caps_keep_laws, capped_from}
use Rattle.lawful.proofs.Worth.{full_is_most, most_of_total, filled_is_cheapest}
use Rattle.outcome.specs.Entries.{Entries, Ranged, level}
use Rattle.outcome.specs.Outcome.{Outcome, outcome}
use Rattle.outcome.specs.Laws.{permitted, Worthy, ClearingIsWorthy}
use Rattle.outcome.proofs.Cleared.{Cleared, cleared_below}

-- The places that land at v or below are those up to the last class of v.
pub lands_by_level : (e : Entries) → Ranged e → (v p : ℕ) → up_to (level e) (8 * v + 7) p ≡ up_to e.landed v p
lands_by_level e ranged v p = let small = ranged.classes p in grind (arith, nat_tests)

-- Whether an award lies whole at some places depends only on which they are.
pub inside_same : (P Q : ℕ → Bool) (z : Award) → ((p : ℕ) → P p ≡ Q p) → Inside 256 P z → Inside 256 Q z
inside_same P Q z same inside = sym (within_same 256 P Q z (λ p _. same p)) ∙ inside

-- Whether nothing more can be taken at some places depends only on which they are.
pub full_same : (B : AwardSet) → Lawful 256 B → (P Q : ℕ → Bool) (z : Award) → ((p : ℕ) → P p ≡ Q p) → Full 256 B P z → Full 256 B Q z
full_same B laws P Q z same full p h at =
    sym (lawful_ext 256 B (raise (keep P z) p 1) (raise (keep Q z) p 1) laws (λ k _. rw (same k)))
    ∙ full p h (same p ∙ at)

-- What holds after all segments makes an outcome worthy.
pub cleared_is_worthy : (A : AwardSet) (e : Entries) (n : ℕ) (o : Outcome) → Lawful 256 A → Ranged e → ((g : ℕ) → e.bid g < n) → Cleared A e n o → Worthy A e o
cleared_is_worthy A e n o laws ranged bids c = record {
  in_set = c.in_set;
  in_capacity = λ p _. c.kept p;
  dominant = λ l. most_of_total 256 (permitted A e) (up_to (level e) l) o.award caps member (c.filled l);
  cheapest = filled_is_cheapest 256 (permitted A e) e.landed o.award caps member by_price;
  served = c.served;
  short = short;
}
  where
    caps : Lawful 256 (permitted A e)
    caps = caps_keep_laws 256 e.capacity A laws

    member : permitted A e o.award ≡ true
    member = capped_from 256 e.capacity A o.award c.in_set (λ p _. c.kept p)

    by_price : (v : ℕ) → Inside 256 (up_to e.landed v) o.award ⊎ Full 256 (permitted A e) (up_to e.landed v) o.award
    by_price v =
        let P : ℕ → Bool = up_to (level e) (8 * v + 7) in
        let Q : ℕ → Bool = up_to e.landed v in
        elim (c.filled (8 * v + 7)) [
          | inl inside ↦ inl (inside_same P Q o.award (lands_by_level e ranged v) inside)
          | inr full ↦ inr (full_same (permitted A e) caps P Q o.award (lands_by_level e ranged v) full)
        ]

    short : (g : ℕ) → g < 16 → o.got g < e.need g → Most 256 (permitted A e) (up_to e.landed (e.bid g)) o.award
    short g h less =
        let P : ℕ → Bool = up_to (level e) (8 * e.bid g + 7) in
        let Q : ℕ → Bool = up_to e.landed (e.bid g) in
        elim (c.buyers g h (bids g)) [
          | inl got ↦ absurd (omega arith)
          | inr full ↦
              full_is_most 256 (permitted A e) Q o.award caps member
              (full_same (permitted A e) caps P Q o.award (lands_by_level e ranged (e.bid g)) (full.1 (8 * e.bid g + 7) (omega arith)))
        ]

-- Over every lawful set the outcome is worthy.
pub clearing_is_worthy : ClearingIsWorthy
clearing_is_worthy A e laws ranged =
    cleared_is_worthy A e 200001 (outcome A e) laws ranged (λ g. omega (arith, ranged.bids g)) (cleared_below A e laws ranged 200001)

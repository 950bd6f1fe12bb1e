-- In a post no buyer is charged above its bid, and no unit is paid below its offer.
use Rattle.std.proofs.Common.{◌≡◌, ℕ, zero, suc, ◌+◌, ◌-◌, ◌*◌, ◌/◌, ◌%◌, ◌<◌, ◌≤◌, true, cond, ◌&&◌, ◌⊎◌, get_or, Some, None, Option, sym, refl, ap, subst, inl, inr, mul_comm, arith}
use Rattle.std.proofs.lemmas.Bool.{cases_Bool, cases_lt, cases_eq, cond-true, and_from, both_ways}
use Rattle.lawful.specs.Sums.{sum_to}
use Rattle.lawful.specs.Awards.{AwardSet}
use Rattle.lawful.specs.Lawful.{Lawful}
use Rattle.lawful.proofs.Sums.{sum_le, term_le_sum}
use Rattle.market.specs.Classes.{class_at}
use Rattle.market.specs.Landing.{landed_from}
use Rattle.market.specs.declared.entries.RawOffer.{RawOffer}
use Rattle.outcome.specs.Entries.{Entries, some_bids}
use Rattle.outcome.specs.Laws.{in_segment, SoundSegment, SoundSums}
use Rattle.outcome.specs.Outcome.{Outcome, outcome}
use Rattle.outcome.specs.View.{figure_of}
use Rattle.outcome.proofs.Bids.{bid_le}
use Rattle.outcome.proofs.Sound.{segments_are_sound}
use Rattle.outcome.proofs.Worthy.{clearing_is_worthy}
use Rattle.book.specs.Views.{View, Stage, entering, cleared, declared, capacity_under, between_at, entries_in}
use Rattle.book.specs.Money.{paid_at, grid_of, charge_of}
use Rattle.book.specs.Promise.{FairPost, StageWell, StageFair}
use Rattle.book.proofs.Entered.{Entered}
use Rattle.book.proofs.EntriesRanged.{entries_ranged}
use Rattle.book.proofs.Products.{product_le, sum_times}
use Rattle.book.proofs.PaidAt.{in_first_segment}

-- Up to any bound, a place lands above each bid, or stands in the segment of one.
pub lands_in_segment :
    (e : Entries) (p n : ℕ) → ((c : ℕ) → c < n → some_bids e c ≡ true → c < e.landed p) ⊎ ((b : ℕ) × (b < n) × (some_bids e b ≡ true) × (in_segment e b p ≡ true))
lands_in_segment e p zero = inl (λ c l some. absurd (let no : ⊥ = omega arith in no))
lands_in_segment e p (suc n) =
    elim (lands_in_segment e p n) [
      | inr d ↦ inr (d.0, omega arith, d.2, d.3)
      | inl above ↦
          elim (cases_lt n (e.landed p)) [
            | inl l ↦ inl (λ c below some. elim (cases_eq c n) [ inl same ↦ omega arith | inr other ↦ above c (omega arith) some ])
            | inr l ↦
                elim (cases_Bool (some_bids e n)) [
                  | inl some ↦ inr (n, omega arith, some, in_first_segment e p n l above)
                  | inr none ↦ inl (λ c below some. elim (cases_eq c n) [ inl same ↦ absurd (both_ways (some_bids e n) none (rw same at some)) | inr other ↦ above c (omega arith) some ])
                ]
          ]
    ]

-- At a place with capacity an offer stands, and its landed offer is the offer and what lies between.
pub landed_is :
    (v : View) (p u band : ℕ) → p / 4 ≡ u → p % 4 ≡ band → 0 < (entries_in v).capacity p
    → (entries_in v).landed p ≡ 100 * figure_of (λ r. get_or r.offers band 0) (v.offers u) + between_at v (grid_of v u)
landed_is v p u band at_unit at-band some =
    subst (λ k. (entries_in v).landed p ≡ 100 * figure_of (λ r. get_or r.offers k 0) (v.offers u) + between_at v (grid_of v u)) at-band
    (subst (λ x. (entries_in v).landed p ≡ 100 * figure_of (λ r. get_or r.offers (p % 4) 0) (v.offers x) + between_at v (grid_of v x)) at_unit
    (by_offer (v.offers (p / 4)) some))
  where
    by_offer :
        (o : Option RawOffer) → 0 < figure_of (λ r. capacity_under (class_at r.class) r (p % 4)) o
        → figure_of (λ r. landed_from (get_or r.offers (p % 4) 0) (between_at v r.grid)) o ≡ 100 * figure_of (λ r. get_or r.offers (p % 4) 0) o + between_at v (figure_of (λ r. r.grid) o)
    by_offer None h = absurd (let no : ⊥ = omega arith in no)
    by_offer (Some r) h = refl

-- What a post of a clearing under a lawful set does.
module _ (A : AwardSet) (v : View) (laws : Lawful 256 A) (w : Entered v) where
  -- the entries of the point
  abbrev pub entries : Entries
  entries = entries_in v

  -- what clearing yields from them
  abbrev pub yield : Outcome
  yield = outcome A (entries_in v)

  -- Each segment of it is sound.
  pub segment_sound : (b : ℕ) → some_bids entries b ≡ true → SoundSegment entries yield b
  segment_sound = (segments_are_sound A entries laws (entries_ranged v w)).0

  -- The sums of its segments are sound.
  pub sums_sound : SoundSums entries yield
  sums_sound = (segments_are_sound A entries laws (entries_ranged v w)).1

  -- A share costs no more at the price than at the bid.
  share_within_bid : (g b : ℕ) → g < 16 → yield.share b g * yield.price b ≤ yield.share b g * entries.bid g
  share_within_bid g b l =
      product_le (yield.share b g) (yield.price b) (entries.bid g) (λ some.
      elim (cases_Bool (some_bids entries b)) [
        | inl bids ↦ omega (arith, (segment_sound b bids).buyers g l some, (segment_sound b bids).capped_by_bid)
        | inr none ↦ absurd (let no : ⊥ = omega (arith, (sums_sound.none b none).1.1 g) in no)
      ])

  -- No buyer is charged above bid × share.
  pub charge_within_bid : (g : ℕ) → g < 16 → charge_of (declared yield) g ≤ entries.bid g * yield.got g
  charge_within_bid g l =
      let term = sum_le 200001 (λ b. yield.share b g * yield.price b) (λ b. yield.share b g * entries.bid g) (λ b _. share_within_bid g b l) in
      let scaled = sum_times 200001 (λ b. yield.share b g) (entries.bid g) in
      let all : yield.got g * entries.bid g ≡ sum_to 200001 (λ b. yield.share b g) * entries.bid g = ap (λ n. n * entries.bid g) (sums_sound.sums g l) in
      omega (arith, term, scaled, all, mul_comm (entries.bid g) (yield.got g))

  -- A place with an award stands in the segment of a bid.
  pub award_in_segment : (p : ℕ) → p < 256 → 0 < yield.award p → (b : ℕ) × (b < 200001) × (some_bids entries b ≡ true) × (in_segment entries b p ≡ true)
  award_in_segment p l some =
      elim (lands_in_segment entries p 200001) [
        | inr d ↦ d
        | inl above ↦ absurd (let no : ⊥ = omega (arith, sums_sound.unsold p l (λ b bids. above b (omega (arith, bid_le entries (entries_ranged v w) b bids)) bids)) in no)
      ]

  -- It is paid at least its landed offer.
  pub landed_le_paid : (p : ℕ) → p < 256 → 0 < yield.award p → entries.landed p ≤ paid_at entries (declared yield) p
  landed_le_paid p l some =
      let d = award_in_segment p l some in
      let b = d.0 in
      let both = and_from (some_bids entries b) (in_segment entries b p) d.2 d.3 in
      let term = term_le_sum 200001 (λ c. cond (some_bids entries c && in_segment entries c p) (yield.price c) 0) b d.1 in
      omega (arith, term, cond-true (some_bids entries b && in_segment entries b p) (yield.price b) 0 both, (segment_sound b d.2).covers p l d.3 some)

  -- It is paid at least its offer and what lies between.
  pub offer_le_paid :
      (u band : ℕ) → u < 64 → band < 4 → 0 < yield.award (4 * u + band)
      → 100 * figure_of (λ r. get_or r.offers band 0) (v.offers u) + between_at v (grid_of v u) ≤ paid_at entries (declared yield) (4 * u + band)
  offer_le_paid u band in-units in-bands some =
      let l : 4 * u + band < 256 = omega arith in
      let room = (clearing_is_worthy A entries laws (entries_ranged v w)).in_capacity (4 * u + band) l in
      let is = landed_is v (4 * u + band) u band (omega arith) (omega arith) (omega (arith, room)) in
      omega (arith, is, landed_le_paid (4 * u + band) l some)

  -- A post of it is fair.
  pub post_fair : FairPost v (declared yield)
  post_fair = record {
    within_bids = charge_within_bid;
    above_offers = λ u band in-units in-bands.
        product_le (yield.award (4 * u + band)) (100 * figure_of (λ r. get_or r.offers band 0) (v.offers u)) (paid_at entries (declared yield) (4 * u + band) - between_at v (grid_of v u))
        (λ some. omega (arith, offer_le_paid u band in-units in-bands some));
  }

-- A post at a stage that is well is fair.
pub stage_fair : (v : View) (s : Stage) (a : Option AwardSet) → Entered v → StageWell v s a → StageFair v s
stage_fair v entering a w h = tt
stage_fair v (cleared d) None w h = absurd h
stage_fair v (cleared d) (Some A) w h = subst (λ x. FairPost v x) (sym h.1.yields) (post_fair A v h.0 w)

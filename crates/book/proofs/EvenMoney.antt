-- The money that a post charges is exactly the money that it pays out.
use Rattle.std.proofs.Common.{◌≡◌, ℕ, ◌+◌, ◌*◌, ◌<◌, Bool, true, false, cond, ◌&&◌, eqb, List, [], ◌∷◌, Some, None, Option, sym, refl, ap, ◌∙◌, subst, inl, inr, mul_comm, mul-zero, zero-mul, arith}
use Rattle.std.proofs.lemmas.Bool.{cases_Bool, cases_eq, eq-eqb, ne_eqb}
use Rattle.lawful.specs.Sums.{sum_to}
use Rattle.lawful.specs.Awards.{AwardSet, keep}
use Rattle.lawful.specs.Lawful.{Lawful}
use Rattle.lawful.proofs.Sums.{sum_same, sum_plus, sum_zeros, sum_place, sum_of_sums}
use Rattle.market.specs.declared.refusals.Refusal.{Refusal}
use Rattle.outcome.specs.Entries.{some_bids}
use Rattle.outcome.specs.Laws.{in_segment}
use Rattle.book.specs.Views.{View, Stage, entering, cleared, Declaration, declared, Money, entries_in}
use Rattle.book.specs.Calls.{Call, tariff, offer, withdraw, bid, clear, reopen, post}
use Rattle.book.specs.Tables.{refusal}
use Rattle.book.specs.Money.{paid_at, grid_of, charge_of, receipt_at, receipt_of, awarded_to, wires_of, branch_of, posted_money}
use Rattle.book.specs.Histories.{acted, after_post, unless, turn, history, under}
use Rattle.book.specs.Promise.{StageWell, receipts}
use Rattle.book.proofs.Entered.{Entered, history_entered}
use Rattle.book.proofs.EntriesRanged.{grid_small}
use Rattle.book.proofs.StageWell.{history_well}
use Rattle.book.proofs.Products.{product_parts, sum_times, sum_by_fours}
use Rattle.book.proofs.FairPosts.{yield, segment_sound, sums_sound, offer_le_paid}

-- One price for some of the amounts, term by term.
pub priced_part : (a c : ℕ) (t : Bool) → a * cond t c 0 ≡ cond t a 0 * c
priced_part a c true = refl
priced_part a c false = mul-zero a ∙ sym (zero-mul c)

-- The wires of the grid of a unit are one of the sums over the grids.
pub at_own_grid : (m grid amount : ℕ) (tariffs : ℕ → ℕ) → grid < m → sum_to m (λ g. cond (eqb grid g) (amount * tariffs g) 0) ≡ amount * tariffs grid
at_own_grid m grid amount tariffs l =
    sum_same m (λ g. cond (eqb grid g) (amount * tariffs g) 0) (λ g. cond (eqb g grid) (amount * tariffs grid) 0) (λ g _. same g) ∙ sum_place m grid (amount * tariffs grid) l
  where
    same : (g : ℕ) → cond (eqb grid g) (amount * tariffs g) 0 ≡ cond (eqb g grid) (amount * tariffs grid) 0
    same g =
        elim (cases_eq grid g) [
          | inl e ↦ rw (eq-eqb grid g e, eq-eqb g grid (sym e), e)
          | inr ne ↦ rw (ne_eqb grid g ne, ne_eqb g grid (λ e. ne (sym e)))
        ]

-- What a post of a clearing under a lawful set charges and pays.
module _ (A : AwardSet) (v : View) (laws : Lawful 256 A) (w : Entered v) where
  -- what the clear declares
  abbrev d : Declaration
  d = declared (yield A v laws w)

  -- what the segments are worth at their prices
  abbrev pub worth : ℕ
  worth = sum_to 200001 (λ b. d.quantity b * d.price b)

  -- The shares of a segment are charged what it is worth.
  segment_charged : (b : ℕ) → sum_to 16 (λ g. d.share b g * d.price b) ≡ d.quantity b * d.price b
  segment_charged b =
      sum_times 16 (d.share b) (d.price b)
      ∙ elim (cases_Bool (some_bids (entries_in v) b)) [
        | inl bids ↦ ap (λ n. n * d.price b) (segment_sound A v laws w b bids).shared
        | inr none ↦ rw ((sums_sound A v laws w).none b none).1.0 (omega (arith, mul-zero (sum_to 16 (d.share b)), mul-zero (d.quantity b)))
      ]

  -- The buyers are charged what all segments are worth.
  pub charged : sum_to 16 (charge_of d) ≡ worth
  charged =
      sum_of_sums 16 200001 (λ g b. d.share b g * d.price b)
      ∙ sum_same 200001 (λ b. sum_to 16 (λ g. d.share b g * d.price b)) (λ b. d.quantity b * d.price b) (λ b _. segment_charged b)

  -- what a place is paid in the segment at b
  abbrev paidIn : ℕ → ℕ → ℕ
  paidIn p b = d.award p * cond (some_bids (entries_in v) b && in_segment (entries_in v) b p) (d.price b) 0

  -- The places of a segment are paid what it is worth.
  segment_paid : (b : ℕ) → sum_to 256 (λ p. paidIn p b) ≡ d.quantity b * d.price b
  segment_paid b =
      elim (cases_Bool (some_bids (entries_in v) b)) [
        | inl bids ↦
            sum_same 256 (λ p. paidIn p b) (λ p. keep (in_segment (entries_in v) b) d.award p * d.price b)
            (λ p _. ap (λ t. d.award p * cond (t && in_segment (entries_in v) b p) (d.price b) 0) bids ∙ priced_part (d.award p) (d.price b) (in_segment (entries_in v) b p))
            ∙ (sum_times 256 (keep (in_segment (entries_in v) b) d.award) (d.price b)
            ∙ ap (λ n. n * d.price b) (segment_sound A v laws w b bids).awarded)
        | inr none ↦
            sum_same 256 (λ p. paidIn p b) (λ p. 0) (λ p _. ap (λ t. d.award p * cond (t && in_segment (entries_in v) b p) (d.price b) 0) none ∙ mul-zero (d.award p))
            ∙ (sum_zeros 256
            ∙ sym (ap (λ n. d.quantity b * n) ((sums_sound A v laws w).none b none).1.0 ∙ mul-zero (d.quantity b)))
      ]

  -- A place is paid in the segments what it is paid in all.
  place_paid : (p : ℕ) → sum_to 200001 (paidIn p) ≡ d.award p * paid_at (entries_in v) d p
  place_paid p =
      sum_same 200001 (paidIn p) (λ b. share b * d.award p) (λ b _. mul_comm (d.award p) (share b))
      ∙ (sum_times 200001 share (d.award p) ∙ mul_comm (paid_at (entries_in v) d p) (d.award p))
    where
      share : ℕ → ℕ
      share b = cond (some_bids (entries_in v) b && in_segment (entries_in v) b p) (d.price b) 0

  -- The places are paid what all segments are worth.
  pub paid : sum_to 256 (λ p. d.award p * paid_at (entries_in v) d p) ≡ worth
  paid =
      sum_same 256 (λ p. d.award p * paid_at (entries_in v) d p) (λ p. sum_to 200001 (paidIn p)) (λ p _. sym (place_paid p))
      ∙ (sum_of_sums 256 200001 paidIn
      ∙ sum_same 200001 (λ b. sum_to 256 (λ p. paidIn p b)) (λ b. d.quantity b * d.price b) (λ b _. segment_paid b))

  -- A place's pay is its receipt, its grid's tariff and the branch's.
  place_split :
      (u k : ℕ) → u < 64 → k < 4
      → d.award (4 * u + k) * paid_at (entries_in v) d (4 * u + k)
      ≡ receipt_at v d u k + d.award (4 * u + k) * v.tariff (grid_of v u) + d.award (4 * u + k) * v.tariff 16
  place_split u k in-units in-bands =
      product_parts (d.award (4 * u + k)) (paid_at (entries_in v) d (4 * u + k)) (v.tariff (grid_of v u)) (v.tariff 16)
      (λ some. omega (arith, offer_le_paid A v laws w u k in-units in-bands some))

  -- A unit's pay is its receipt, its grid's tariff and the branch's.
  unit_split :
      (u : ℕ) → u < 64
      → sum_to 4 (λ k. d.award (4 * u + k) * paid_at (entries_in v) d (4 * u + k)) ≡ receipt_of v d u + awarded_to d u * v.tariff (grid_of v u) + awarded_to d u * v.tariff 16
  unit_split u in-units =
      let own = λ (k : ℕ). d.award (4 * u + k) * v.tariff (grid_of v u) in
      let branch = λ (k : ℕ). d.award (4 * u + k) * v.tariff 16 in
      let terms = sum_same 4 (λ k. d.award (4 * u + k) * paid_at (entries_in v) d (4 * u + k)) (λ k. receipt_at v d u k + own k + branch k) (λ k l. place_split u k in-units l) in
      let outer = sum_plus 4 (λ k. receipt_at v d u k + own k) branch in
      let inner = sum_plus 4 (receipt_at v d u) own in
      let by_grid_shares = sum_times 4 (λ k. d.award (4 * u + k)) (v.tariff (grid_of v u)) in
      let by-branch = sum_times 4 (λ k. d.award (4 * u + k)) (v.tariff 16) in
      omega (arith, terms, outer, inner, by_grid_shares, by-branch)

  -- The grids receive each unit's awards × the tariff of its grid.
  pub wires_by_unit : sum_to 16 (wires_of v d) ≡ sum_to 64 (λ u. awarded_to d u * v.tariff (grid_of v u))
  wires_by_unit =
      sum_of_sums 16 64 (λ g u. cond (eqb (grid_of v u) g) (awarded_to d u * v.tariff g) 0)
      ∙ sum_same 64 (λ u. sum_to 16 (λ g. cond (eqb (grid_of v u) g) (awarded_to d u * v.tariff g) 0)) (λ u. awarded_to d u * v.tariff (grid_of v u))
      (λ u _. at_own_grid 16 (grid_of v u) (awarded_to d u) v.tariff (grid_small v w u))

  -- The branch receives each unit's awards × its tariff.
  pub branch_by_unit : branch_of v d ≡ sum_to 64 (λ u. awarded_to d u * v.tariff 16)
  branch_by_unit = ap (λ n. n * v.tariff 16) (sum_by_fours 64 d.award) ∙ sym (sum_times 64 (awarded_to d) (v.tariff 16))

  -- What the places are paid is what units, grids and branch receive.
  pub received : sum_to 256 (λ p. d.award p * paid_at (entries_in v) d p) ≡ sum_to 64 (receipt_of v d) + sum_to 16 (wires_of v d) + branch_of v d
  received =
      let wires = λ (u : ℕ). awarded_to d u * v.tariff (grid_of v u) in
      let branch = λ (u : ℕ). awarded_to d u * v.tariff 16 in
      let units = sum_by_fours 64 (λ p. d.award p * paid_at (entries_in v) d p) in
      let terms = sum_same 64 (λ u. sum_to 4 (λ k. d.award (4 * u + k) * paid_at (entries_in v) d (4 * u + k))) (λ u. receipt_of v d u + wires u + branch u) unit_split in
      let outer = sum_plus 64 (λ u. receipt_of v d u + wires u) branch in
      let inner = sum_plus 64 (receipt_of v d) wires in
      omega (arith, units, terms, outer, inner, wires_by_unit, branch_by_unit)

  -- What is charged is what is received.
  pub post_even : sum_to 16 (charge_of d) ≡ sum_to 64 (receipt_of v d) + sum_to 16 (wires_of v d) + branch_of v d
  post_even = charged ∙ sym paid ∙ received

-- the money charged is the money received
abbrev pub Even : Money → Type 0
Even m = sum_to 16 m.charge ≡ receipts m

-- A post that charges what it pays out keeps the accounts even.
pub posted_even :
    (v : View) (d : Declaration) → Even v.money → sum_to 16 (charge_of d) ≡ sum_to 64 (receipt_of v d) + sum_to 16 (wires_of v d) + branch_of v d
    → Even (posted_money v d)
posted_even v d before now =
    let charges = sum_plus 16 v.money.charge (charge_of d) in
    let units = sum_plus 64 v.money.unit (receipt_of v d) in
    let wires = sum_plus 16 v.money.wires (wires_of v d) in
    omega (arith, charges, units, wires, before, now)

-- A post keeps the accounts even at a stage that is well.
pub after_post_even : (v : View) (s : Stage) (a : Option AwardSet) → Entered v → StageWell v s a → Even v.money → Even (after_post v s).money
after_post_even v entering a w h before = before
after_post_even v (cleared d) None w h before = absurd h
after_post_even v (cleared d) (Some A) w h before =
    subst (λ x. Even (posted_money v x)) (sym h.1.yields) (posted_even v (declared (yield A v h.0 w)) before (post_even A v h.0 w))

-- An accepted call keeps the accounts even.
pub acted_even : (v : View) (c : Call) (a : Option AwardSet) → Entered v → StageWell v v.stage a → Even v.money → Even (acted c v).money
acted_even v (tariff grid fen) a w h before = before
acted_even v (offer r) a w h before = before
acted_even v (withdraw unit) a w h before = before
acted_even v (bid grid price need) a w h before = before
acted_even v (clear A laws) a w h before = before
acted_even v reopen a w h before = before
acted_even v post a w h before = after_post_even v v.stage a w h before

-- Every call keeps the accounts even.
pub turn_even : (v : View) (c : Call) (a : Option AwardSet) → Entered v → StageWell v v.stage a → Even v.money → Even (turn c v).money
turn_even v c a w h before = by_refusal (refusal v c)
  where
    by_refusal : (o : Option Refusal) → Even (unless o v (acted c v)).money
    by_refusal None = acted_even v c a w h before
    by_refusal (Some r) = before

-- After every list of calls the money charged is the money received.
pub history_even : (h : List Call) → Even (history h).money
history_even [] = omega (arith, sum_zeros 16, sum_zeros 64)
history_even (c ∷ h) = turn_even (history h) c (under h) (history_entered h) (history_well h) (history_even h)

-- How much money there can be.
use Rattle.std.proofs.Common.{◌≡◌, ℕ, ◌+◌, ◌*◌, ◌/◌, ◌%◌, ◌<◌, ◌≤◌, List, [], ◌∷◌, Some, None, Option, sym, ap, ◌∙◌, subst, mul_comm, mul-le-mul_left, arith}
use Rattle.lawful.specs.Sums.{sum_to}
use Rattle.lawful.specs.Awards.{AwardSet}
use Rattle.lawful.specs.Lawful.{Lawful}
use Rattle.lawful.proofs.Sums.{sum_plus, sum_bound, sum_zeros, term_le_sum}
use Rattle.market.specs.Classes.{class_at}
use Rattle.market.specs.declared.refusals.Refusal.{Refusal}
use Rattle.outcome.specs.Laws.{Worthy}
use Rattle.outcome.specs.Outcome.{outcome}
use Rattle.outcome.specs.View.{figure_of}
use Rattle.outcome.proofs.Worthy.{clearing_is_worthy}
use Rattle.book.specs.Views.{View, Stage, entering, cleared, Declaration, declared, capacity_under, entries_in}
use Rattle.book.specs.Calls.{Call, tariff, offer, withdraw, bid, clear, reopen, post}
use Rattle.book.specs.Tables.{refusal}
use Rattle.book.specs.Money.{charge_of, receipt_of, wires_of}
use Rattle.book.specs.Histories.{acted, after_post, unless, turn, history, under}
use Rattle.book.specs.Bounds.{Postable}
use Rattle.book.specs.Promise.{StageWell}
use Rattle.book.proofs.Entered.{Entered, history_entered}
use Rattle.book.proofs.EntriesRanged.{figure_keeps, entries_ranged}
use Rattle.book.proofs.StageWell.{history_well}
use Rattle.book.proofs.FairPosts.{charge_within_bid, offer_le_paid}
use Rattle.book.proofs.EvenMoney.{post_even, Even, history_even}

-- A product of factors within bounds is within the product of the bounds.
pub product_within : (x y m n : ℕ) → x ≤ m → y ≤ n → x * y ≤ m * n
product_within x y m n low high = omega (arith, mul-le-mul_left x high, mul-le-mul_left n low, mul_comm x n, mul_comm m n)

-- Where nothing is offered there is no capacity.
pub no_offer_no_capacity : (v : View) (u band : ℕ) → band < 4 → v.offers u ≡ None → (entries_in v).capacity (4 * u + band) ≡ 0
no_offer_no_capacity v u band l none =
    let at_unit : (4 * u + band) / 4 ≡ u = omega arith in
    ap (figure_of (λ r. capacity_under (class_at r.class) r ((4 * u + band) % 4))) (ap v.offers at_unit ∙ none)

-- at most so much is charged in all after so many posts
abbrev pub ChargedWithin : View → Type 0
ChargedWithin v = sum_to 16 v.money.charge ≤ v.posted * 640000000000

-- What a post of a clearing under a lawful set can charge.
module _ (A : AwardSet) (v : View) (laws : Lawful 256 A) (w : Entered v) where
  -- what the clear declares
  abbrev d : Declaration
  d = declared (outcome A (entries_in v))

  -- What clearing yields is worthy.
  worthy : Worthy A (entries_in v) (outcome A (entries_in v))
  worthy = clearing_is_worthy A (entries_in v) laws (entries_ranged v w)

  -- No grid needs more than 200,000.
  pub need_small : (g : ℕ) → (entries_in v).need g ≤ 200000
  need_small g = figure_keeps (λ b. b.need) (v.bids g) 200000 (λ b e. (w.asks g b e).0.need)

  -- A buyer is charged at most the greatest bid times the greatest need.
  pub charge_small : (g : ℕ) → g < 16 → charge_of d g ≤ 40000000000
  charge_small g l =
      let got : d.got g ≤ 200000 = omega (arith, worthy.served g l, need_small g) in
      omega (arith, charge_within_bid A v laws w g l, product_within ((entries_in v).bid g) (d.got g) 200000 200000 ((entries_ranged v w).bids g) got)

  -- The buyers together are charged at most 16 times as much.
  pub post_small : sum_to 16 (charge_of d) ≤ 640000000000
  post_small = omega (arith, sum_bound 16 40000000000 (charge_of d) charge_small)

  -- No place has an award above the greatest capacity.
  pub award_small : (p : ℕ) → p < 256 → d.award p ≤ 20000
  award_small p l = omega (arith, worthy.in_capacity p l, (entries_ranged v w).capacities p)

  -- Before the last point a post keeps every account within its width.
  pub post_postable : Even v.money → ChargedWithin v → v.posted < 96 → Postable v d
  post_postable even within before = record {
    awards = award_small;
    unoffered = λ u band in-units in-bands none. omega (arith, worthy.in_capacity (4 * u + band) (omega arith), no_offer_no_capacity v u band in-bands none);
    standing = λ p l some. omega (arith, worthy.in_capacity p l);
    covered = λ u band in-units in-bands some. omega (arith, offer_le_paid A v laws w u band in-units in-bands some);
    charges = λ g l. omega (arith, all, term_le_sum 16 v.money.charge g l, term_le_sum 16 (charge_of d) g l);
    units = λ u l. omega (arith, all, even, post_even A v laws w, term_le_sum 64 v.money.unit u l, term_le_sum 64 (receipt_of v d) u l);
    wires = λ g l. omega (arith, all, even, post_even A v laws w, term_le_sum 16 v.money.wires g l, term_le_sum 16 (wires_of v d) g l);
    branch = omega (arith, all, even, post_even A v laws w);
  }
    where
      all : sum_to 16 v.money.charge + sum_to 16 (charge_of d) ≤ 61440000000000
      all = omega (arith, within, before, post_small)

-- A post charges at most its part at a stage that is well.
pub after_post_within : (v : View) (s : Stage) (a : Option AwardSet) → Entered v → StageWell v s a → ChargedWithin v → ChargedWithin (after_post v s)
after_post_within v entering a w h before = before
after_post_within v (cleared d) None w h before = absurd h
after_post_within v (cleared d) (Some A) w h before =
    let added : sum_to 16 (charge_of d) ≤ 640000000000 = subst (λ x. sum_to 16 (charge_of x) ≤ 640000000000) (sym h.1.yields) (post_small A v h.0 w) in
    omega (arith, before, added, sum_plus 16 v.money.charge (charge_of d))

-- An accepted call keeps the charges within so much for each post.
pub acted_within : (v : View) (c : Call) (a : Option AwardSet) → Entered v → StageWell v v.stage a → ChargedWithin v → ChargedWithin (acted c v)
acted_within v (tariff grid fen) a w h before = before
acted_within v (offer r) a w h before = before
acted_within v (withdraw unit) a w h before = before
acted_within v (bid grid price need) a w h before = before
acted_within v (clear A laws) a w h before = before
acted_within v reopen a w h before = before
acted_within v post a w h before = after_post_within v v.stage a w h before

-- Every call keeps the charges within so much for each post.
pub turn_within : (v : View) (c : Call) (a : Option AwardSet) → Entered v → StageWell v v.stage a → ChargedWithin v → ChargedWithin (turn c v)
turn_within v c a w h before = by_refusal (refusal v c)
  where
    by_refusal : (o : Option Refusal) → ChargedWithin (unless o v (acted c v))
    by_refusal None = acted_within v c a w h before
    by_refusal (Some r) = before

-- After every list of calls the charges are within so much for each post.
pub history_money : (h : List Call) → sum_to 16 (history h).money.charge ≤ (history h).posted * 640000000000
history_money [] = omega (arith, sum_zeros 16)
history_money (c ∷ h) = turn_within (history h) c (under h) (history_entered h) (history_well h) (history_money h)

-- A cleared point that is well can be posted before the last point is.
pub well_postable :
    (v : View) (d : Declaration) (a : Option AwardSet) → Entered v → StageWell v (cleared d) a → Even v.money → ChargedWithin v → v.posted < 96
    → Postable v d
well_postable v d None w h even within before = absurd h
well_postable v d (Some A) w h even within before = subst (λ x. Postable v x) (sym h.1.yields) (post_postable A v h.0 w even within before)

-- After every list of calls a cleared point can be posted before the last point is.
pub history_postable : (h : List Call) (d : Declaration) → (history h).stage ≡ cleared d → (history h).posted < 96 → Postable (history h) d
history_postable h d stage before =
    well_postable (history h) d (under h) (history_entered h) (subst (λ s. StageWell (history h) s (under h)) stage (history_well h)) (history_even h) (history_money h) before

-- A day that shows what a list of calls makes can post a cleared point before the last one is posted.
pub postable : (h : List Call) (d : Declaration) (v : View) → v ≡ history h → v.stage ≡ cleared d → v.posted < 96 → Postable v d
postable h d v shows stage before =
    subst (λ x. Postable x d) (sym shows)
    (history_postable h d (subst (λ x. x.stage ≡ cleared d) shows stage) (subst (λ x. x.posted < 96) shows before))

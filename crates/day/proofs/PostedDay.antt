-- What a post can rely on, and what it makes of a day.
use mathlib.Core.Bool.{Bool-set}
use mathlib.Core.Logic.{∥∥₁_elim}
use Rattle.std.proofs.Common.{◌≡◌, ℕ, suc, ◌+◌, ◌<◌, false, is_some, None, sym, refl, ap, ◌∙◌, arith, length-take}
use native.Mathlib.Bridge.{le_prop}
use native.Mathlib.Nat.{ℕ_set}
use Rattle.std.specs.List.{find}
use Rattle.outcome.specs.Entries.{some_bids}
use Rattle.outcome.specs.Outcome.{outcome}
use Rattle.clearing.specs.declared.points.Cleared.{Cleared as Clearing}
use Rattle.book.specs.Bounds.{Postable}
use Rattle.book.specs.Calls.{post}
use Rattle.book.specs.Histories.{after_post, turn}
use Rattle.book.specs.Money.{posted_money}
use Rattle.book.specs.Tables.{is_cleared, gate_rows}
use Rattle.book.specs.Views.{entering, cleared, entries_in}
use Rattle.book.proofs.MoneyBounds.{postable}
use Rattle.day.specs.Day.{RisingRows}
use Rattle.day.specs.Followed.{Followed}
use Rattle.day.specs.Posting.{posting, ReadOff}
use Rattle.day.specs.Shown.{declaration_of, money_of, offers_of, bids_of, point_of, segments_of, shown_of, stage_of, tariff_at}
use Rattle.day.specs.declared.ledger.Ledger.{Ledger}
use Rattle.day.specs.declared.register.Register.{Register}
use Rattle.market.specs.Rows.{topmost}
use Rattle.day.specs.declared.state.PointState.{PointState}
use Rattle.day.specs.declared.state.PointState.TheVariants.{Entering, Cleared}
use Rattle.day.proofs.Following.{accepted_turn}
use Rattle.day.proofs.SegmentsFound.{at_bid, bid_found}
use Rattle.day.proofs.SegmentRows.{Rows, declared_rows, charged_is_charge, price_is_paid}

module _ (posted entered : ℕ) (r : Register) (c : Clearing) (l : Ledger) (followed : ∥ Followed (shown_of posted entered r (Cleared c) l) (Cleared c) ∥₁) where
  -- the rows of a followed day
  rows : Followed (shown_of posted entered r (Cleared c) l) (Cleared c) → Rows (entries_in (point_of r)) (segments_of c)
  rows f = declared_rows (entries_in (point_of r)) (outcome f.2.0 (entries_in (point_of r))) c f.2.2

  -- What is read off the rows is what is declared.
  pub reads_off : ReadOff r c
  reads_off = record {
    few = ∥∥₁_elim followed le_prop (λ f. f.2.2.few);
    prices = λ p. ∥∥₁_elim followed (ℕ_set _ _) (λ f. price_is_paid (entries_in (point_of r)) c (rows f) p);
    charges = λ g. ∥∥₁_elim followed (ℕ_set _ _) (λ f. charged_is_charge (entries_in (point_of r)) c (rows f) g);
  }

  -- Some grid bids a price exactly if a row has it.
  pub bid_is_found : (b : ℕ) → some_bids (entries_in (point_of r)) b ≡ is_some (find (at_bid b) (segments_of c))
  bid_is_found b = ∥∥₁_elim followed (Bool-set _ _) (λ f. bid_found r c (rows f) b)

  -- Its rows rise.
  pub rows_rise : RisingRows (segments_of c)
  rows_rise = record {
    few = ∥∥₁_elim followed le_prop (λ f. omega (arith, length-take c.count c.segments, f.2.2.few));
    rising = λ i j less l. ∥∥₁_elim followed le_prop (λ f. (rows f).rising i j less l);
    small = λ k l. ∥∥₁_elim followed le_prop (λ f. (rows f).small k l);
  }

  -- A followed day with a point left can be posted.
  follows_postable : posted < 96 → Followed (shown_of posted entered r (Cleared c) l) (Cleared c) → Postable (shown_of posted entered r (Cleared c) l) (declaration_of c)
  follows_postable left f = postable f.0 (declaration_of c) (shown_of posted entered r (Cleared c) l) f.1 refl left

  pub can_post : posted < 96 → Postable (posting r l) (declaration_of c)
  can_post left = record {
    awards = λ p in-places. ∥∥₁_elim followed le_prop (λ f. (follows_postable left f).awards p in-places);
    unoffered = λ u band in-units in-bands none. ∥∥₁_elim followed (ℕ_set _ _) (λ f. (follows_postable left f).unoffered u band in-units in-bands none);
    standing = λ p in-places some. ∥∥₁_elim followed le_prop (λ f. (follows_postable left f).standing p in-places some);
    covered = λ u band in-units in-bands some. ∥∥₁_elim followed le_prop (λ f. (follows_postable left f).covered u band in-units in-bands some);
    charges = λ g in-grids. ∥∥₁_elim followed le_prop (λ f. (follows_postable left f).charges g in-grids);
    units = λ u in-units. ∥∥₁_elim followed le_prop (λ f. (follows_postable left f).units u in-units);
    wires = λ g in-grids. ∥∥₁_elim followed le_prop (λ f. (follows_postable left f).wires g in-grids);
    branch = ∥∥₁_elim followed le_prop (λ f. (follows_postable left f).branch);
  }

-- What the tables show after a post.
pub posted_shows :
    (posted entered : ℕ) (r : Register) (c : Clearing) (l : Ledger) (after : Register) (paid : Ledger)
    → after.tariffs ≡ r.tariffs → offers_of after ≡ (λ u. None) → bids_of after ≡ (λ g. None) → money_of paid ≡ posted_money (posting r l) (declaration_of c)
    → shown_of (posted + 1) entered after Entering paid ≡ after_post (shown_of posted entered r (Cleared c) l) (cleared (declaration_of c))
posted_shows posted entered r c l after paid tariffs offers bids money =
    let next : posted + 1 ≡ suc posted = omega arith in
    λ i. record {
      posted = next i;
      stage = entering;
      entered = entered;
      tariff = tariff_at (tariffs i);
      offers = offers i;
      bids = bids i;
      money = money i;
    }

-- A post that the day takes turns it into what the tables then show.
pub post_turn :
    (posted entered : ℕ) (r : Register) (s : PointState) (c : Clearing) (l : Ledger) (after : Register) (paid : Ledger)
    → s ≡ Cleared c → None ≡ topmost (gate_rows posted (is_cleared (stage_of s)) false 0)
    → after.tariffs ≡ r.tariffs → offers_of after ≡ (λ u. None) → bids_of after ≡ (λ g. None) → money_of paid ≡ posted_money (posting r l) (declaration_of c)
    → shown_of (posted + 1) entered after Entering paid ≡ turn post (shown_of posted entered r s l)
post_turn posted entered r s c l after paid is taken tariffs offers bids money =
    let v = shown_of posted entered r s l in
    let stages : after_post v (stage_of s) ≡ after_post (shown_of posted entered r (Cleared c) l) (cleared (declaration_of c)) =
    ap (λ x. after_post (shown_of posted entered r x l) (stage_of x)) is in
    posted_shows posted entered r c l after paid tariffs offers bids money ∙ sym (accepted_turn v post (sym taken) ∙ stages)

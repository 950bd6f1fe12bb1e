-- What a clear makes of a day.
use Rattle.std.proofs.Common.{◌≡◌, ℕ, ◌/◌, ◌<◌, get_or, Some, None, Option, sym, refl, ap, ◌∙◌, subst, arith}
use Rattle.lawful.specs.Awards.{AwardSet}
use Rattle.lawful.specs.Lawful.{Lawful}
use Rattle.market.specs.declared.entries.UnitOffer.{UnitOffer}
use Rattle.outcome.specs.Entries.{Entries, Ranged, some_bids}
use Rattle.outcome.specs.Laws.{SoundSums}
use Rattle.outcome.specs.Outcome.{Outcome, outcome}
use Rattle.outcome.specs.View.{figure_of}
use Rattle.outcome.proofs.Worthy.{clearing_is_worthy}
use Rattle.clearing.specs.Declaration.{Declares}
use Rattle.clearing.specs.declared.points.Cleared.{Cleared}
use Rattle.book.specs.Views.{declared, entries_in}
use Rattle.book.specs.Promise.{DeclaredWell}
use Rattle.book.proofs.EntriesRanged.{class_number_small}
use Rattle.book.proofs.SameOutcome.{outcome_same, some_bids_same}
use Rattle.day.specs.Shown.{declaration_of, offered, point_of, shown_of, SameEntries}
use Rattle.day.specs.declared.ledger.Ledger.{Ledger}
use Rattle.day.specs.declared.register.Register.{Register}
use Rattle.day.specs.declared.state.PointState.{PointState}
use Rattle.day.proofs.Declarations.{tables_declare}

-- The tables of a clearing declare the same under entries in which the same bids are made.
pub declares_same : (e f : Entries) (n : ℕ) (o : Outcome) (c : Cleared) → ((b : ℕ) → some_bids e b ≡ some_bids f b) → Declares e n o c → Declares f n o c
declares_same e f n o c same d = record {
  awards = d.awards;
  got = d.got;
  few = d.few;
  each = λ k x l.
      let h = d.each k x l in
      (record { bidden = sym (same (get_or c.segments k x).bid) ∙ h.0.bidden; quantity = h.0.quantity; price = h.0.price; shares = h.0.shares }, h.1);
  all = λ b l some. d.all b l (same b ∙ some);
  rising = d.rising;
  rest = d.rest;
}

-- The classes of the units offered are below 8.
offered_class : (o : Option UnitOffer) → figure_of (λ r. r.class) (offered o) < 8
offered_class None = omega arith
offered_class (Some o) = omega (arith, class_number_small o.class)

-- Entries that agree with entries within their maxima, and have classes, are within their maxima.
ranged_same : (e f : Entries) → SameEntries e f → Ranged e → ((p : ℕ) → f.class p < 8) → Ranged f
ranged_same e f same r classes = record {
  capacities = λ p. omega (arith, ap (λ t. t p) same.capacity, r.capacities p);
  classes = classes;
  bids = λ g. omega (arith, ap (λ t. t g) same.bid, r.bids g);
}

module _
    (A : AwardSet)
    (laws : Lawful 256 A)
    (r : Register)
    (e : Entries)
    (c : Cleared)
    (ranged : Ranged e)
    (same : SameEntries e (entries_in (point_of r)))
    (sums : SoundSums e (outcome A e))
    (d : Declares e 200001 (outcome A e) c)
  where
    -- What clearing yields from the tiers and bids is what it yields from the register.
    pub outcome_is : outcome A e ≡ outcome A (entries_in (point_of r))
    outcome_is = outcome_same A e (entries_in (point_of r)) same.capacity same.bid same.need same.level

    -- It is what the tables declare.
    pub declaration_is : declaration_of c ≡ declared (outcome A (entries_in (point_of r)))
    declaration_is = tables_declare A e c ranged sums d ∙ ap declared outcome_is

    -- The tables can be stored.
    pub stored : Declares (entries_in (point_of r)) 200001 (outcome A (entries_in (point_of r))) c
    stored =
        declares_same e (entries_in (point_of r)) 200001 (outcome A (entries_in (point_of r))) c
        (some_bids_same A e (entries_in (point_of r)) same.capacity same.bid same.need same.level)
        (subst (λ o. Declares e 200001 o c) outcome_is d)

    -- They are declared well.
    pub declared_well : (posted entered : ℕ) (s : PointState) (l : Ledger) → DeclaredWell A (shown_of posted entered r s l) (declaration_of c)
    declared_well posted entered s l =
        let worthy = clearing_is_worthy A (entries_in (point_of r)) laws (ranged_same e (entries_in (point_of r)) same ranged (λ p. offered_class (get_or r.offers (p / 4) None))) in
        let v = shown_of posted entered r s l in
        let well : DeclaredWell A v (declared (outcome A (entries_in (point_of r)))) = record {
          yields = refl;
          in_set = worthy.in_set;
          in_headroom = worthy.in_capacity;
          dominant = worthy.dominant;
          cheapest = worthy.cheapest;
          served = worthy.served;
          short = worthy.short;
        } in
        subst (λ x. DeclaredWell A v x) (sym declaration_is) well

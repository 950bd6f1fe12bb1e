-- What a post pays, unit by unit.
use Rattle.std.proofs.Common.{◌≡◌, ℕ, ◌+◌, ◌-◌, ◌*◌, ◌/◌, ◌%◌, ◌<◌, ◌≤◌, cond, eqb, List, map, length, get_or, sum, Some, None, Option, sym, ap, ◌∙◌, subst, inl, inr, zero-mul, arith}
use mathlib.Core.Path.{fun_ext}
use Rattle.std.specs.List.{zip}
use Rattle.std.proofs.lemmas.List.{get_or-map}
use Rattle.std.proofs.lemmas.Bool.{cases_eq, cond-true, cond-false, eq-eqb, ne_eqb}
use Rattle.lawful.specs.Sums.{sum_to}
use Rattle.lawful.proofs.Sums.{sum_none, sum_more, sum_same, sum_zeros, sum_bound}
use Rattle.market.specs.Landing.{landed_from, deducted, landed}
use Rattle.market.specs.declared.entries.RawOffer.{RawOffer}
use Rattle.market.specs.declared.entries.UnitOffer.{UnitOffer}
use Rattle.market.specs.declared.figures.Charges.{Charges}
use Rattle.market.specs.declared.figures.Offer.{Offer}
use Rattle.outcome.specs.Outcome.{at}
use Rattle.outcome.specs.View.{figure_of}
use Rattle.outcome.proofs.Segments.{at_same, at_other}
use Rattle.clearing.specs.declared.points.Cleared.{Cleared}
use Rattle.clearing.specs.declared.points.Segment.{Segment}
use Rattle.book.specs.Bounds.{Postable, max_money}
use Rattle.book.specs.Money.{paid_at, grid_of, charge_of, receipt_at, receipt_of, awarded_to, wires_of, branch_of, posted_money}
use Rattle.book.specs.Views.{View, Declaration, between_at, entries_in}
use Rattle.book.proofs.Products.{sum_times, sum_by_fours}
use Rattle.day.specs.Amounts.{price_over, price_of, receipt_in, received_in, Covered}
use Rattle.day.specs.Posting.{posting, ReadOff}
use Rattle.day.specs.Shown.{tariff_at, offered, offers_of, segments_of, declaration_of, account_at, money_of, point_of}
use Rattle.day.specs.declared.ledger.Accounts.{Accounts}
use Rattle.day.specs.declared.ledger.Ledger.{Ledger}
use Rattle.day.specs.declared.register.Register.{Register}
use Rattle.day.proofs.AccountTables.{money_same}
use Rattle.day.proofs.Bands.{places_of, sum_of_all, places_sum, pairs_long, pair_at}
use Rattle.day.proofs.Raised.{Raised, raised_none, raised_next, raised_more, raised_nothing, raised_all, sum_part_le}

-- what the wires of a grid receive for a unit
abbrev pub wires_for : View → Declaration → ℕ → ℕ → ℕ
wires_for v d g u = cond (eqb (grid_of v u) g) (awarded_to d u * v.tariff g) 0

-- what the branch receives for a unit
abbrev pub branch_for : View → Declaration → ℕ → ℕ
branch_for v d u = awarded_to d u * v.tariff 16

-- The accounts after the units below n are paid, on top of the money that v shows.
pub record Paid (v : View) (d : Declaration) (n : ℕ) (units wires : ℕ → ℕ) (branch : ℕ) : Type 0 where
  pub to_units : Raised v.money.unit (receipt_of v d) n units
  pub to_wires : (g : ℕ) → wires g ≡ v.money.wires g + sum_to n (wires_for v d g)
  pub to_branch : branch ≡ v.money.branch + sum_to n (branch_for v d)

-- Before the first unit nothing is paid.
pub paid_none : (v : View) (d : Declaration) → Paid v d 0 v.money.unit v.money.wires v.money.branch
paid_none v d = record {
  to_units = raised_none v.money.unit (receipt_of v d);
  to_wires = λ g. omega (arith, sum_none (wires_for v d g));
  to_branch = omega (arith, sum_none (branch_for v d));
}

-- The branch receives for each unit its tariff on the unit's award.
pub branch_by_units : (v : View) (d : Declaration) → sum_to 64 (branch_for v d) ≡ branch_of v d
branch_by_units v d = sum_times 64 (awarded_to d) (v.tariff 16) ∙ ap (λ n. n * v.tariff 16) (sym (sum_by_fours 64 d.award))

-- Where a unit has no award, it receives nothing.
pub receipt_none : (v : View) (d : Declaration) (u : ℕ) → ((band : ℕ) → band < 4 → d.award (4 * u + band) ≡ 0) → receipt_of v d u ≡ 0
receipt_none v d u none =
    sum_same 4 (receipt_at v d u) (λ band. 0)
    (λ band l. let left = paid_at (entries_in v) d (4 * u + band) - between_at v (grid_of v u) in ap (λ n. n * left) (none band l) ∙ zero-mul left)
    ∙ sum_zeros 4

-- Where a unit has no award, its awards add up to 0.
pub awarded_none : (d : Declaration) (u : ℕ) → ((band : ℕ) → band < 4 → d.award (4 * u + band) ≡ 0) → awarded_to d u ≡ 0
awarded_none d u none = sum_same 4 (λ band. d.award (4 * u + band)) (λ band. 0) none ∙ sum_zeros 4

module _ (v : View) (d : Declaration) (n : ℕ) (units wires : ℕ → ℕ) (branch : ℕ) (paid : Paid v d n units wires branch) where
  -- One unit more is paid: its receipt to it, its award at the tariffs to its grid and the branch.
  pub paid_more :
      (g : ℕ) (units' wires' : ℕ → ℕ) (branch' : ℕ) → grid_of v n ≡ g → units' ≡ at n (units n + receipt_of v d n) units
      → wires' ≡ at g (wires g + awarded_to d n * v.tariff g) wires → branch' ≡ branch + branch_for v d n → Paid v d (n + 1) units' wires' branch'
  paid_more g units' wires' branch' here units-are wires-are branch-is = record {
    to_units = raised_more v.money.unit (receipt_of v d) n units paid.to_units units' units-are;
    to_wires = λ k.
        elim (cases_eq k g) [
          | inl same ↦
              rw same (
              let amount = awarded_to d n * v.tariff g in
              let added : wires_for v d g n ≡ amount = cond-true (eqb (grid_of v n) g) amount 0 (eq-eqb (grid_of v n) g here) in
              omega (arith, ap (λ f. f g) wires-are, at_same g (wires g + amount) wires, paid.to_wires g, sum_more n (wires_for v d g), added)
              )
          | inr other ↦
              let added : wires_for v d k n ≡ 0 = cond-false (eqb (grid_of v n) k) (awarded_to d n * v.tariff k) 0 (ne_eqb (grid_of v n) k (λ e. other (sym e ∙ here))) in
              omega (arith, ap (λ f. f k) wires-are, at_other g (wires g + awarded_to d n * v.tariff g) wires k other, paid.to_wires k, sum_more n (wires_for v d k), added)
        ];
    to_branch = omega (arith, branch-is, paid.to_branch, sum_more n (branch_for v d));
  }

  -- A unit without an award is paid nothing.
  pub paid_nothing : ((band : ℕ) → band < 4 → d.award (4 * n + band) ≡ 0) → Paid v d (n + 1) units wires branch
  paid_nothing none =
      let no-award = awarded_none d n none in
      record {
        to_units = raised_nothing v.money.unit (receipt_of v d) n units paid.to_units (receipt_none v d n none);
        to_wires = λ g.
            let nothing : wires_for v d g n ≡ 0 =
            elim (cases_eq (grid_of v n) g) [
              | inl e ↦ cond-true (eqb (grid_of v n) g) (awarded_to d n * v.tariff g) 0 (eq-eqb (grid_of v n) g e) ∙ ap (λ m. m * v.tariff g) no-award ∙ zero-mul (v.tariff g)
              | inr ne ↦ cond-false (eqb (grid_of v n) g) (awarded_to d n * v.tariff g) 0 (ne_eqb (grid_of v n) g ne)
            ] in
            omega (arith, paid.to_wires g, sum_more n (wires_for v d g), nothing);
        to_branch = omega (arith, paid.to_branch, sum_more n (branch_for v d), ap (λ m. m * v.tariff 16) no-award ∙ zero-mul (v.tariff 16));
      }

  module _ (postable : Postable v d) (within : n < 64) where
    -- The next receipt fits.
    pub unit_fits : units n + receipt_of v d n ≤ max_money
    unit_fits = omega (arith, raised_next v.money.unit (receipt_of v d) n units paid.to_units, postable.units n within)

    -- What the wires of its grid receive fits.
    pub wires_fit : (g : ℕ) → grid_of v n ≡ g → g < 16 → wires g + awarded_to d n * v.tariff g ≤ max_money
    wires_fit g here small =
        let amount = awarded_to d n * v.tariff g in
        let added : wires_for v d g n ≡ amount = cond-true (eqb (grid_of v n) g) amount 0 (eq-eqb (grid_of v n) g here) in
        omega (arith, paid.to_wires g, sum_more n (wires_for v d g), added, sum_part_le (n + 1) 64 (wires_for v d g) (omega arith), postable.wires g small)

    -- What the branch receives fits.
    pub branch_fits : branch + branch_for v d n ≤ max_money
    branch_fits =
        omega (arith, paid.to_branch, sum_more n (branch_for v d), sum_part_le (n + 1) 64 (branch_for v d) (omega arith), branch_by_units v d, postable.branch)

-- Once 64 units are paid and no unit beyond them has an award, all is paid.
pub paid_all :
    (v : View) (d : Declaration) (units wires : ℕ → ℕ) (branch : ℕ) → Paid v d 64 units wires branch → ((p : ℕ) → 256 ≤ p → d.award p ≡ 0)
    → ((u : ℕ) → units u ≡ v.money.unit u + receipt_of v d u)
    × ((g : ℕ) → wires g ≡ v.money.wires g + wires_of v d g)
    × (branch ≡ v.money.branch + branch_of v d)
paid_all v d units wires branch paid none = (
  raised_all v.money.unit (receipt_of v d) 64 units paid.to_units (λ u from. receipt_none v d u (λ band l. none (4 * u + band) (omega arith))),
  paid.to_wires,
  omega (arith, paid.to_branch, branch_by_units v d),
)

-- A unit of the register that is not offered has no award.
pub unoffered_none :
    (r : Register) (l : Ledger) (d : Declaration) → Postable (posting r l) d → (u : ℕ) → u < 64 → get_or r.offers u None ≡ None
    → (band : ℕ) → band < 4 → d.award (4 * u + band) ≡ 0
unoffered_none r l d postable u within absent band small = postable.unoffered u band within small (ap offered absent)

-- A unit of the register that is offered, with the tariffs that lie between and its awards by band.
module _ (r : Register) (l : Ledger) (c : Cleared) (segments : List Segment) (u : ℕ) (o : UnitOffer) (charges : Charges)
    (read : ReadOff r c)
    (same : segments ≡ segments_of c)
    (stands : get_or r.offers u None ≡ Some o)
    (tariffs : (charges.grid.fen ≡ tariff_at r.tariffs o.grid.number) × (charges.branch.fen ≡ tariff_at r.tariffs 16))
    (places : length c.awards ≡ 256)
    (offers : List Offer)
    (prices : offers ≡ o.offers)
    (bands : length offers ≡ 4)
    (within : u < 64)
    (postable : Postable (posting r l) (declaration_of c)) where
  abbrev awards : List ℕ
  awards = places_of c.awards u

  -- Its grid is that of the offer.
  grid_is : grid_of (posting r l) u ≡ o.grid.number
  grid_is = ap (λ x. figure_of (λ y. y.grid) (offered x)) stands

  -- What lies between is what is deducted.
  between_is : between_at (posting r l) (grid_of (posting r l) u) ≡ deducted charges
  between_is = ap (between_at (posting r l)) grid_is ∙ omega (arith, tariffs.0, tariffs.1)

  -- A band of it lands by its offer and the tariffs.
  landed_is : (band : ℕ) (x : Offer) → band < 4 → (entries_in (point_of r)).landed (4 * u + band) ≡ landed (get_or offers band x).yuan charges
  landed_is band x small =
      let of-band = λ (k : ℕ) (y : Option RawOffer). figure_of (λ z. landed_from (get_or z.offers k 0) (between_at (point_of r) z.grid)) y in
      let p = 4 * u + band in
      let the-band : p % 4 ≡ band = omega arith in
      let the-unit : p / 4 ≡ u = omega arith in
      ap (λ k. of-band k (offers_of r (p / 4))) the-band
      ∙ ap (λ k. of-band band (offers_of r k)) the-unit
      ∙ ap (λ y. of-band band (offered y)) stands
      ∙ ap (landed_from (get_or (map (λ y. y.yuan) o.offers) band 0)) (omega (arith, tariffs.0, tariffs.1))
      ∙ ap (λ os. landed (get_or (map (λ y. y.yuan) os) band 0) charges) (sym prices)
      ∙ ap (λ n. landed n charges) (get_or-map (λ y. y.yuan) offers band x 0 (omega (arith, bands)))

  -- The price of a band is the one at which its place is paid.
  price_is : (band : ℕ) (x : Offer) → band < 4 → price_of charges segments (get_or offers band x) ≡ paid_at (entries_in (posting r l)) (declaration_of c) (4 * u + band)
  price_is band x small =
      ap (λ ss. price_of charges ss (get_or offers band x)) same
      ∙ ap (price_over (segments_of c)) (sym (landed_is band x small))
      ∙ read.prices (4 * u + band)

  -- What a band brings is what the declaration says.
  receipt_is : (band : ℕ) (d : ℕ × Offer) → band < 4 → receipt_in charges segments (get_or (zip awards offers) band d) ≡ receipt_at (posting r l) (declaration_of c) u band
  receipt_is band d small =
      let award = get_or c.awards (4 * u + band) 0 in
      ap (receipt_in charges segments) (pair_at c.awards u places within offers bands band d small)
      ∙ ap (λ n. award * (n - deducted charges)) (price_is band d.1 small)
      ∙ ap (λ n. award * (paid_at (entries_in (posting r l)) (declaration_of c) (4 * u + band) - n)) (sym between_is)

  -- an offer that stands nowhere
  abbrev free : Offer
  free = record { yuan = 0; ok = omega arith }

  -- What it receives is what the declaration says.
  received_is : received_in charges segments awards offers ≡ receipt_of (posting r l) (declaration_of c) u
  received_is =
      sum_of_all (receipt_in charges segments) (zip awards offers) (0, free) 4 (pairs_long c.awards u places within offers bands)
      ∙ sum_same 4 (λ band. receipt_in charges segments (get_or (zip awards offers) band (0, free))) (receipt_at (posting r l) (declaration_of c) u) (λ band small. receipt_is band (0, free) small)

  -- Its awards add up to what the declaration says.
  awarded_is : sum awards ≡ awarded_to (declaration_of c) u
  awarded_is = places_sum c.awards u places within

  -- The price covers what lies between wherever it has an award.
  pub offered_covered : Covered charges segments awards offers
  offered_covered band d small =
      let few : band < 4 = omega (arith, pairs_long c.awards u places within offers bands) in
      subst (λ (x : ℕ × Offer). 0 < x.0 → deducted charges ≤ price_of charges segments x.1) (sym (pair_at c.awards u places within offers bands band d few))
      (λ some. omega (arith, postable.covered u band within few some, between_is, price_is band d.1 few))

  -- Its awards are no more than money can be.
  pub offered_small : sum awards ≤ max_money
  offered_small =
      omega (arith, awarded_is, sum_bound 4 20000 (λ band. (declaration_of c).award (4 * u + band)) (λ band small. postable.awards (4 * u + band) (omega arith)))

  -- What it receives is no more than money can be.
  pub offered_fits_alone : received_in charges segments awards offers ≤ max_money
  offered_fits_alone = omega (arith, received_is, postable.units u within)

  module _ (units wires : ℕ → ℕ) (branch : ℕ) (paid : Paid (posting r l) (declaration_of c) u units wires branch) where
    abbrev at-grid : ℕ → ℕ → ℕ
    at-grid award tariff = wires o.grid.number + award * tariff

    -- What it, its grid and the branch receive fits.
    pub offered_fits :
        (units u + received_in charges segments awards offers ≤ max_money)
        × (wires o.grid.number + sum awards * charges.grid.fen ≤ max_money)
        × (branch + sum awards * charges.branch.fen ≤ max_money)
    offered_fits =
        let v = posting r l in
        let d = declaration_of c in (
          omega (arith, received_is, unit_fits v d u units wires branch paid postable within),
          omega (arith, ap (λ n. at-grid n charges.grid.fen) awarded_is, ap (at-grid (awarded_to d u)) tariffs.0, wires_fit v d u units wires branch paid postable within o.grid.number grid_is o.grid.ok),
          omega (arith, ap (λ n. n * charges.branch.fen) awarded_is, ap (λ t. awarded_to d u * t) tariffs.1, branch_fits v d u units wires branch paid postable within),
        )

    -- Once it, its grid and the branch are raised, one unit more is paid.
    pub offered_paid :
        (units' wires' : ℕ → ℕ) (branch' : ℕ) → units' ≡ at u (units u + received_in charges segments awards offers) units
        → wires' ≡ at o.grid.number (wires o.grid.number + sum awards * charges.grid.fen) wires
        → branch' ≡ branch + sum awards * charges.branch.fen → Paid (posting r l) (declaration_of c) (u + 1) units' wires' branch'
    offered_paid units' wires' branch' units-are wires-are branch-is =
        let d = declaration_of c in
        paid_more (posting r l) d u units wires branch paid o.grid.number units' wires' branch' grid_is
        (units-are ∙ ap (λ n. at u (units u + n) units) received_is)
        (wires-are ∙ ap (λ n. at o.grid.number (at-grid n charges.grid.fen) wires) awarded_is ∙ ap (λ t. at o.grid.number (at-grid (awarded_to d u) t) wires) tariffs.0)
        (branch-is ∙ ap (λ n. branch + n * charges.branch.fen) awarded_is ∙ ap (λ t. branch + awarded_to d u * t) tariffs.1)

-- A ledger whose charges are raised, beside its other accounts, holds the money of the post.
pub posted_money_lem :
    (v : View) (d : Declaration) (paid : Ledger) (charged : Accounts 16) → ((g : ℕ) → account_at charged g ≡ v.money.charge g + charge_of d g)
    → ((u : ℕ) → account_at paid.units u ≡ v.money.unit u + receipt_of v d u) → ((g : ℕ) → account_at paid.wires g ≡ v.money.wires g + wires_of v d g)
    → paid.branch.fortieths ≡ v.money.branch + branch_of v d
    → money_of (record { charges = charged; units = paid.units; wires = paid.wires; branch = paid.branch }) ≡ posted_money v d
posted_money_lem v d paid charged charges units wires branch =
    money_same (money_of (record { charges = charged; units = paid.units; wires = paid.wires; branch = paid.branch })) (posted_money v d)
    (fun_ext charges) (fun_ext units) (fun_ext wires) branch

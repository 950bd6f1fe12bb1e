-- The table of segments: one row for each bid, rising.
use Rattle.std.proofs.Common.{◌≡◌, ℕ, zero, suc, ◌+◌, ◌<◌, ◌≤◌, true, cond, eqb, leb, ◌⊎◌, List, [], ◌∷◌, length, get_or, replicate, sum_by, sym, refl, ap, ◌∙◌, inl, inr, mul-zero, arith, length-take}
use Rattle.std.proofs.lemmas.List.{get_or-take, get_or_past}
use Rattle.std.proofs.lemmas.List.Sums.{sum_by-cons}
use Rattle.std.proofs.lemmas.Bool.{cases_eq, cases_lt, cond-true, cond-false, eq-eqb, ne_eqb, le-leb, lt-leb}
use Rattle.lawful.specs.Sums.{sum_to}
use Rattle.lawful.proofs.Sums.{sum_same, sum_plus, sum_zeros, sum_place}
use Rattle.outcome.specs.Entries.{Entries, some_bids}
use Rattle.outcome.specs.Outcome.{Outcome}
use Rattle.clearing.specs.Declaration.{Declares, blank_segment}
use Rattle.clearing.specs.declared.points.Segment.{Segment}
use Rattle.clearing.specs.declared.points.Cleared.{Cleared}
use Rattle.book.specs.Money.{paid_at, charge_of}
use Rattle.book.proofs.PaidAt.{paid_at_least_bid, paid_at_none}
use Rattle.day.specs.Amounts.{charged_in, charged_over, price_over}
use Rattle.day.specs.Shown.{among_grids, segment_at, segments_of, declaration_of}

abbrev pub row_at : List Segment → ℕ → Segment
row_at segments k = get_or segments k blank_segment

-- the bids of the rows rise
abbrev pub Rising : List Segment → Type 0
Rising segments = (i j : ℕ) → i < j → j < length segments → (row_at segments i).bid < (row_at segments j).bid

-- What is behind the first of rising rows rises.
rest_rising : (s : Segment) (ss : List Segment) → Rising (s ∷ ss) → Rising ss
rest_rising s ss rising i j less l = rising (suc i) (suc j) (omega arith) (omega arith)

-- Where no row has the bid, there is no segment at it.
pub no_row : (segments : List Segment) (b : ℕ) → ((k : ℕ) → k < length segments → (row_at segments k).bid ≡ b → ⊥) → segment_at segments b ≡ blank_segment
no_row [] b none = refl
no_row (s ∷ ss) b none =
    cond-false (eqb s.bid b) s (segment_at ss b) (ne_eqb s.bid b (none 0 (omega arith)))
    ∙ no_row ss b (λ k l. none (suc k) (omega arith))

-- The segment at the bid of a row is that row.
pub segment_at_row : (segments : List Segment) → Rising segments → (k : ℕ) → k < length segments → segment_at segments (row_at segments k).bid ≡ row_at segments k
segment_at_row [] rising k l = absurd (omega arith)
segment_at_row (s ∷ ss) rising zero l = cond-true (eqb s.bid s.bid) s (segment_at ss s.bid) (eq-eqb s.bid s.bid refl)
segment_at_row (s ∷ ss) rising (suc k) l =
    let b = (row_at ss k).bid in
    let above = rising 0 (suc k) (omega arith) l in
    cond-false (eqb s.bid b) s (segment_at ss b) (ne_eqb s.bid b (λ same. omega arith)) ∙ segment_at_row ss (rest_rising s ss rising) k (omega arith)

-- A sum over all bids below n is a sum over the rows, where these have bids below n.
pub sum_over_rows :
    (n : ℕ) (f : Segment → ℕ) → f blank_segment ≡ 0 → (segments : List Segment) → Rising segments
    → ((k : ℕ) → k < length segments → (row_at segments k).bid < n) → sum_to n (λ b. f (segment_at segments b)) ≡ sum_by f segments
sum_over_rows n f blank [] rising below = sum_same n (λ b. f blank_segment) (λ b. 0) (λ b l. blank) ∙ sum_zeros n
sum_over_rows n f blank (s ∷ ss) rising below =
    sum_same n (λ b. f (segment_at (s ∷ ss) b)) (λ b. cond (eqb b s.bid) (f s) 0 + f (segment_at ss b)) (λ b l. term b)
    ∙ sum_plus n (λ b. cond (eqb b s.bid) (f s) 0) (λ b. f (segment_at ss b))
    ∙ omega (arith, sum_place n s.bid (f s) (below 0 (omega arith)), sum_over_rows n f blank ss (rest_rising s ss rising) (λ k l. below (suc k) (omega arith)), sum_by-cons f s ss)
  where
    behind : segment_at ss s.bid ≡ blank_segment
    behind = no_row ss s.bid (λ k l same. let above = rising 0 (suc k) (omega arith) (omega arith) in omega arith)

    term : (b : ℕ) → f (segment_at (s ∷ ss) b) ≡ cond (eqb b s.bid) (f s) 0 + f (segment_at ss b)
    term b =
        elim (cases_eq b s.bid) [
          | inl same ↦
              rw same (
              ap f (cond-true (eqb s.bid s.bid) s (segment_at ss s.bid) (eq-eqb s.bid s.bid refl))
              ∙ omega (arith, cond-true (eqb s.bid s.bid) (f s) 0 (eq-eqb s.bid s.bid refl), ap f behind, blank)
              )
          | inr other ↦
              ap f (cond-false (eqb s.bid b) s (segment_at ss b) (ne_eqb s.bid b (λ e. other (sym e))))
              ∙ omega (arith, cond-false (eqb b s.bid) (f s) 0 (ne_eqb b s.bid other))
        ]

-- The first row whose bid is at or above a number, or that there is none, with the price that is read there.
pub first_row :
    (segments : List Segment) (fen : ℕ)
    → ((k : ℕ) × (k < length segments) × (fen ≤ (row_at segments k).bid) × ((j : ℕ) → j < k → (row_at segments j).bid < fen) × (price_over segments fen ≡ (row_at segments k).price))
    ⊎ (((j : ℕ) → j < length segments → (row_at segments j).bid < fen) × (price_over segments fen ≡ 0))
first_row [] fen = inr (λ j l. absurd (omega arith), refl)
first_row (s ∷ ss) fen =
    elim (cases_lt s.bid fen) [
      | inr within ↦ inl (0, omega arith, within, λ j l. absurd (omega arith), cond-true (leb fen s.bid) s.price (price_over ss fen) (le-leb fen s.bid within))
      | inl below ↦
          let next = cond-false (leb fen s.bid) s.price (price_over ss fen) (lt-leb fen s.bid below) in
          elim (first_row ss fen) [
            | inl f ↦ inl (suc f.0, omega (arith, f.1), f.2, before ss f.0 f.3 below, next ∙ f.4)
            | inr f ↦ inr (before ss (length ss) f.0 below, next ∙ f.1)
          ]
    ]
  where
    before : (rest : List Segment) (n : ℕ) → ((j : ℕ) → j < n → (row_at rest j).bid < fen) → s.bid < fen → (j : ℕ) → j < suc n → (row_at (s ∷ rest) j).bid < fen
    before rest n h low zero l = low
    before rest n h low (suc j) l = h j (omega arith)

-- What the rows of a point hold: rising bids, each bidden by some grid, and each bid in a row.
pub record Rows (e : Entries) (segments : List Segment) : Type 0 where
  pub rising : Rising segments
  pub bidden : (k : ℕ) → k < length segments → some_bids e (row_at segments k).bid ≡ true
  pub small : (k : ℕ) → k < length segments → (row_at segments k).bid ≤ 200000
  pub all : (b : ℕ) → b ≤ 200000 → some_bids e b ≡ true → (k : ℕ) × (k < length segments) × ((row_at segments k).bid ≡ b)

-- a row of a bid that nobody can make
abbrev too_high : Segment
too_high = record { bid = 200001; quantity = 0; price = 0; shares = replicate 16 0 }

-- The table has a row for each segment.
pub rows_there : (e : Entries) (o : Outcome) (c : Cleared) → Declares e 200001 o c → c.count ≤ length c.segments
rows_there e o c d =
    elim (cases_lt (length c.segments) c.count) [
      | inr enough ↦ enough
      | inl short ↦
          let past = ap (λ s. s.bid) (get_or_past c.segments (length c.segments) too_high (omega arith)) in
          absurd (let no : ⊥ = omega (arith, past, (d.each (length c.segments) too_high short).1) in no)
    ]

-- The rows that count are as many as the count.
pub row_count : (e : Entries) (o : Outcome) (c : Cleared) → Declares e 200001 o c → length (segments_of c) ≡ c.count
row_count e o c d = omega (arith, length-take c.count c.segments, rows_there e o c d)

-- The rows that a clearing declares.
pub declared_rows : (e : Entries) (o : Outcome) (c : Cleared) → Declares e 200001 o c → Rows e (segments_of c)
declared_rows e o c d = record {
  rising = λ i j less l. omega (arith, same i (omega (arith, count)), same j (omega (arith, count)), d.rising i j blank_segment less (omega (arith, count)));
  bidden = λ k l. rw (row k (omega (arith, count))) (d.each k blank_segment (omega (arith, count))).0.bidden;
  small = λ k l. omega (arith, same k (omega (arith, count)), (d.each k blank_segment (omega (arith, count))).1);
  all = λ b l some. let h = d.all b (omega arith) some in (h.0, omega (arith, count, h.1), same h.0 h.1 ∙ h.2 blank_segment);
}
  where
    count : length (segments_of c) ≡ c.count
    count = row_count e o c d

    row : (k : ℕ) → k < c.count → row_at (segments_of c) k ≡ row_at c.segments k
    row k l = get_or-take c.count c.segments k blank_segment l

    same : (k : ℕ) → k < c.count → (row_at (segments_of c) k).bid ≡ (row_at c.segments k).bid
    same k l = ap (λ s. s.bid) (row k l)

-- In a blank row nobody is charged.
blank_charge : (g : ℕ) → charged_in g blank_segment ≡ 0
blank_charge g = mul-zero (among_grids blank_segment.shares g)

-- What a grid is charged over the rows is what the declaration says.
pub charged_is_charge : (e : Entries) (c : Cleared) → Rows e (segments_of c) → (g : ℕ) → charged_over (segments_of c) g ≡ charge_of (declaration_of c) g
charged_is_charge e c rows g =
    sym (sum_over_rows 200001 (charged_in g) (blank_charge g) (segments_of c) rows.rising (λ k l. let small = rows.small k l in omega arith))

-- The price that is read for a landed offer is the one at which its place is paid.
pub price_is_paid :
    (e : Entries) (c : Cleared) → Rows e (segments_of c) → (p : ℕ) → price_over (segments_of c) (e.landed p) ≡ paid_at e (declaration_of c) p
price_is_paid e c rows p =
    elim (first_row (segments_of c) (e.landed p)) [
      | inl f ↦
          f.4
          ∙ ap (λ s. s.price) (sym (segment_at_row (segments_of c) rows.rising f.0 f.1))
          ∙ sym (paid_at_least_bid e (declaration_of c) p (row_at (segments_of c) f.0).bid (rows.small f.0 f.1) (rows.bidden f.0 f.1) f.2 (lower f.0 f.1 f.3))
      | inr f ↦ f.1 ∙ sym (paid_at_none e (declaration_of c) p (λ b l some. let r = rows.all b l some in omega (arith, f.0 r.0 r.1, r.2)))
    ]
  where
    lower :
        (k : ℕ) → k < length (segments_of c) → ((j : ℕ) → j < k → (row_at (segments_of c) j).bid < e.landed p)
        → (b : ℕ) → b < (row_at (segments_of c) k).bid → some_bids e b ≡ true → b < e.landed p
    lower k l before b less some =
        let r = rows.all b (omega (arith, rows.small k l)) some in
        elim (cases_lt r.0 k) [
          | inl first ↦ omega (arith, before r.0 first, r.2)
          | inr from ↦
              elim (cases_eq r.0 k) [
                | inl same ↦ absurd (let no : ⊥ = omega (arith, ap (λ i. (row_at (segments_of c) i).bid) same, r.2) in no)
                | inr other ↦ absurd (let no : ⊥ = omega (arith, rows.rising k r.0 (omega arith) r.1, r.2) in no)
              ]
        ]

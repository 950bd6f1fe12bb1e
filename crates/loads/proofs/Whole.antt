-- The records of a whole sheet, loaded part by part.
use Rattle.std.proofs.Common.{◌≡◌, ℕ, zero, suc, ◌+◌, ◌-◌, ◌*◌, ◌<◌, ◌≤◌, min, List, [], ◌∷◌, ◌++◌, length, take, drop, Some, None, Option, sym, refl, ap, ◌∙◌, arith}
use Rattle.std.proofs.lemmas.List.{drop-drop, length-take}
use Rattle.market.specs.Maxima.{grid_count}
use Rattle.market.specs.Rows.{topmost}
use Rattle.market.specs.declared.refusals.Refusal.{Refusal}
use Rattle.book.specs.Calls as call
use Rattle.book.specs.Calls.{Call}
use Rattle.book.specs.Views.{View}
use Rattle.book.specs.Histories.{turn}
use Rattle.sheet.specs.Layout.{header_of, header_bytes, unit_at, bid_at, limit_at, unit_of, bid_of, limit_of, sheet_rows}
use Rattle.sheet.specs.declared.header.Header.{Header}
use Rattle.sheet.proofs.Within.{kth_unit, kth_bid, kth_limit}
use Rattle.loads.specs.Loads.{Record, unit, bid, limit, records_in, records_on, body_records, units_in, bids_in, limits_in, units_on, bids_on, limits_on, records_of, Desk, Outcome, recorded, onward, load_from, opened_to, day_after, day_rows, first_refusal, either, begun, loaded, turns, Led}

-- The bytes of the records of a sheet.
abbrev pub body : ℕ → List ℕ → List ℕ
body m s = take m (drop header_bytes s)

-- How many bytes the records have is within the length of the sheet.
pub within_body : (m n : ℕ) (s records : List ℕ) → records ≡ body m s → length records ≡ n → n ≤ m
within_body m n s records is long =
    let short : length records ≡ min m (length (drop header_bytes s)) = ap length is ∙ length-take m (drop header_bytes s) in
    omega (arith, short, long)

-- Records one behind the other, each of which is the one of its number.
records_whole :
    (size : ℕ) (first : List ℕ → Record) (nth : ℕ → Record) (s : List ℕ) (n k a : ℕ) → ((j : ℕ) → j < n → first (drop (a + size * j) s) ≡ nth (k + j))
    → records_in size first n (drop a s) ≡ records_on nth n k
records_whole size first nth s zero k a each = refl
records_whole size first nth s (suc n) k a each =
    let here : a + size * 0 ≡ a = omega arith in
    let one : k + 0 ≡ k = omega arith in
    let head : first (drop a s) ≡ nth k = ap (λ (b : ℕ). first (drop b s)) (sym here) ∙ each 0 (omega arith) ∙ ap nth one in
    ap (λ (x : Record). x ∷ records_in size first n (drop size (drop a s))) head
    ∙ ap (λ (xs : List ℕ). nth k ∷ records_in size first n xs) (drop-drop size a s)
    ∙ ap (λ (rs : List Record). nth k ∷ rs) (records_whole size first nth s n (suc k) (a + size) (λ j l.
    let further : a + size + size * j ≡ a + size * suc j = omega arith in
    let number : k + suc j ≡ suc k + j = omega arith in
    ap (λ (b : ℕ). first (drop b s)) further ∙ each (suc j) (omega (arith, l)) ∙ ap nth number))

-- The records behind the header are those of the sheet.
pub units_whole : (s : List ℕ) (m n k : ℕ) → 19 * k + 19 * n ≤ m → units_in n (drop (19 * k) (body m s)) ≡ units_on n k s
units_whole s m n k l =
    records_whole 19 (λ x. unit (unit_at x)) (λ j. unit (unit_of s j)) (body m s) n k (19 * k) (λ j under.
    ap (λ (b : ℕ). unit (unit_at (drop b (body m s)))) {x = 19 * k + 19 * j} {y = 19 * (k + j)} (omega arith) ∙ ap unit (kth_unit s m (k + j) (omega (arith, l, under))))

pub bids_whole : (s : List ℕ) (m n k a : ℕ) → a ≡ 19 * (header_of s).units + 9 * k → a + 9 * n ≤ m → bids_in n (drop a (body m s)) ≡ bids_on n k s
bids_whole s m n k a is l =
    records_whole 9 (λ x. bid (bid_at x)) (λ j. bid (bid_of s j)) (body m s) n k a (λ j under. ap bid (kth_bid s m (k + j) (a + 9 * j) (omega (arith, is)) (omega (arith, l, under))))

pub limits_whole : (s : List ℕ) (m n k a : ℕ) → a ≡ 19 * (header_of s).units + 9 * (header_of s).bids + 5 * k → a + 5 * n ≤ m → limits_in n (drop a (body m s)) ≡ limits_on n k s
limits_whole s m n k a is l =
    records_whole 5 (λ x. limit (limit_at x)) (λ j. limit (limit_of s j)) (body m s) n k a (λ j under. ap limit (kth_limit s m (k + j) (a + 5 * j) (omega (arith, is)) (omega (arith, l, under))))

pub body_whole :
    (s records : List ℕ) (h : Header) → h ≡ header_of s → records ≡ body (h.length - 10) s → length records ≡ 19 * h.units + 9 * h.bids + 5 * h.limits → body_records h records ≡ records_of s
body_whole s records h is at long =
    let m = (header_of s).length - 10 in
    let same : records ≡ body m s = at ∙ ap (λ (x : Header). body (x.length - 10) s) is in
    let counts : length records ≡ 19 * (header_of s).units + 9 * (header_of s).bids + 5 * (header_of s).limits = long ∙ ap (λ (x : Header). 19 * x.units + 9 * x.bids + 5 * x.limits) is in
    let enough = within_body m _ s records same counts in
    let behind = drop-drop (9 * (header_of s).bids) (19 * (header_of s).units) (body m s) in
    (λ i. body_records (is i) (same i))
    ∙ (λ i. units_whole s m (header_of s).units 0 (omega (arith, enough)) i
    ++ (bids_whole s m (header_of s).bids 0 (19 * (header_of s).units) (omega arith) (omega (arith, enough)) i
    ++ (ap (limits_in (header_of s).limits) behind ∙ limits_whole s m (header_of s).limits 0 (19 * (header_of s).units + 9 * (header_of s).bids) (omega arith) (omega (arith, enough))) i))

-- Going on twice is going on with both.
onward_twice : (d : Desk) (o : Option (Refusal × ℕ)) (f g : Desk → Outcome) → (h : Desk → Outcome) → ((x : Desk) → f x ≡ onward (g x).0 (g x).1 h) → onward d o f ≡ onward (onward d o g).0 (onward d o g).1 h
onward_twice d None f g h same = same d
onward_twice d (Some e) f g h same = refl

-- Records and then more records.
pub in_parts : (L N p q : ℕ) (xs ys : List Record) (d : Desk) → q ≡ p + length xs → load_from L N p (xs ++ ys) d ≡ onward (load_from L N p xs d).0 (load_from L N p xs d).1 (load_from L N q ys)
in_parts L N p q [] ys d at =
    let same : q ≡ p = omega (arith, at) in
    ap (λ (n : ℕ). load_from L N n ys d) (sym same)
in_parts L N p q (x ∷ xs) ys d at =
    onward_twice (recorded L N p x d).0 (recorded L N p x d).1 (load_from L N (suc p) (xs ++ ys)) (load_from L N (suc p) xs) (load_from L N q ys)
    (λ (e : Desk). in_parts L N (suc p) q xs ys e (omega (arith, at)))

-- There are as many as are counted.
many_in : (size : ℕ) (first : List ℕ → Record) (n : ℕ) (s : List ℕ) → length (records_in size first n s) ≡ n
many_in size first zero s = refl
many_in size first (suc n) s = ap suc (many_in size first n (drop size s))

-- A load leads from what the day showed by calls.
turns_both : (cs ds : List Call) (v : View) → turns (cs ++ ds) v ≡ turns ds (turns cs v)
turns_both [] ds v = refl
turns_both (c ∷ cs) ds v = turns_both cs ds (turn c v)

pub joined : (v w x : View) → Led v w → Led w x → Led v x
joined v w x (cs, is) (ds, at) = (cs ++ ds, at ∙ ap (turns ds) is ∙ sym (turns_both cs ds v))

led_record : (r : Record) (v : View) → Led v (day_after r v)
led_record (unit r) v = (call.offer r ∷ [], refl)
led_record (bid b) v = (call.bid b.grid b.price b.need ∷ [], refl)
led_record (limit l) v = ([], refl)

led_onward : (v : View) (d : Desk) (o : Option (Refusal × ℕ)) (f : Desk → Outcome) → Led v d.0 → ((x : Desk) → Led x.0 (f x).0.0) → Led v (onward d o f).0.0
led_onward v d None f one more = joined v d.0 (f d).0.0 one (more d)
led_onward v d (Some e) f one more = one

pub led_load : (L N p : ℕ) (rs : List Record) (d : Desk) → Led d.0 (load_from L N p rs d).0.0
led_load L N p [] d = ([], refl)
led_load L N p (r ∷ rs) d =
    led_onward d.0 (recorded L N p r d).0 (recorded L N p r d).1 (load_from L N (suc p) rs) (led_record r d.0) (λ (x : Desk). led_load L N (suc p) rs x)

-- No first row declines.
pub none_declines : (v : View) (s : List ℕ) → topmost (day_rows v) ≡ None → topmost (sheet_rows s (v.posted + 1)) ≡ None → first_refusal v s ≡ None
none_declines v s day sheet = ap (λ (o : Option Refusal). either o (topmost (sheet_rows s (v.posted + 1)))) day ∙ sheet

-- The load then begins.
pub begins : (L N : ℕ) (s : List ℕ) (d : Desk) → first_refusal d.0 s ≡ None → loaded L N s d ≡ load_from L N 0 (records_of s) (d.0, opened_to L N grid_count d.1)
begins L N s d none = ap (λ (o : Option Refusal). begun o d (load_from L N 0 (records_of s) (d.0, opened_to L N grid_count d.1))) none

-- A refusal is not none.
pub none_some : (o : Option Refusal) (e : Refusal) → o ≡ None → o ≡ Some e → ⊥
none_some o e none some =
    let no : Some e ≡ None = sym some ∙ none in
    grind (arith, no)

-- What a load that began led to, by calls.
pub led_begun : (L N : ℕ) (s : List ℕ) (d x : Desk) (o : Option (Refusal × ℕ)) → first_refusal d.0 s ≡ None → loaded L N s d ≡ (x, o) → Led d.0 x.0
led_begun L N s d x o none is =
    let led = led_load L N 0 (records_of s) (d.0, opened_to L N grid_count d.1) in
    (led.0, sym (ap (λ (y : Outcome). y.0.0) (sym (begins L N s d none) ∙ is)) ∙ led.1)

-- The same records from another place.
pub carried : (L N M K p : ℕ) (rs : List Record) (d : Desk) (o : Outcome) → M ≡ L → K ≡ N → load_from M K p rs d ≡ o → load_from L N p rs d ≡ o
carried L N M K p rs d o layers nodes is = (λ i. load_from (sym layers i) (sym nodes i) p rs d) ∙ is

-- The records behind a header, counted by u, b and t.
module _
    (L N u b t : ℕ) (h : Header) (s behind-units behind-bids : List ℕ) (units-are : u ≡ h.units) (bids-are : b ≡ h.bids) (limits-are : t ≡ h.limits)
    (bids-from : behind-units ≡ drop (19 * u) s) (limits-from : behind-bids ≡ drop (9 * b) behind-units) where
  abbrev units : List Record
  units = units_in u s

  abbrev bids : List Record
  bids = bids_in b behind-units

  abbrev limits : List Record
  limits = limits_in t behind-bids

  whole : body_records h s ≡ units ++ (bids ++ limits)
  whole =
      let at : behind-units ≡ drop (19 * h.units) s = bids-from ∙ ap (λ (n : ℕ). drop (19 * n) s) units-are in
      let on : behind-bids ≡ drop (9 * h.bids) (drop (19 * h.units) s) = limits-from ∙ (λ i. drop (9 * bids-are i) (at i)) in
      sym (λ i. units_in (units-are i) s ++ (bids_in (bids-are i) (at i) ++ limits_in (limits-are i) (on i)))

  abbrev all : Desk → Outcome
  all = load_from L N 0 (body_records h s)

  units_first : (d : Desk) → all d ≡ onward (load_from L N 0 units d).0 (load_from L N 0 units d).1 (load_from L N u (bids ++ limits))
  units_first d =
      let many = many_in 19 (λ x. unit (unit_at x)) u s in
      ap (λ (rs : List Record). load_from L N 0 rs d) whole ∙ in_parts L N 0 u units (bids ++ limits) d (omega (arith, many))

  bids_then : (d : Desk) → load_from L N u (bids ++ limits) d ≡ onward (load_from L N u bids d).0 (load_from L N u bids d).1 (load_from L N (u + b) limits)
  bids_then d =
      let many = many_in 9 (λ x. bid (bid_at x)) b behind-units in
      in_parts L N u (u + b) bids limits d (omega (arith, many))

  -- A unit ended it.
  pub units_ended : (d x : Desk) (e : Refusal × ℕ) → load_from L N 0 units d ≡ (x, Some e) → all d ≡ (x, Some e)
  units_ended d x e is = units_first d ∙ ap (λ (y : Outcome). onward y.0 y.1 (load_from L N u (bids ++ limits))) is

  -- What came behind the units.
  units_took : (d x : Desk) (o : Outcome) → load_from L N 0 units d ≡ (x, None) → load_from L N u (bids ++ limits) x ≡ o → all d ≡ o
  units_took d x o is then = units_first d ∙ ap (λ (y : Outcome). onward y.0 y.1 (load_from L N u (bids ++ limits))) is ∙ then

  -- A bid ended it.
  pub bids_ended : (d x y : Desk) (e : Refusal × ℕ) → load_from L N 0 units d ≡ (x, None) → load_from L N u bids x ≡ (y, Some e) → all d ≡ (y, Some e)
  bids_ended d x y e is then = units_took d x (y, Some e) is (bids_then x ∙ ap (λ (z : Outcome). onward z.0 z.1 (load_from L N (u + b) limits)) then)

  -- The limits came last.
  pub limits_last : (d x y : Desk) (o : Outcome) → load_from L N 0 units d ≡ (x, None) → load_from L N u bids x ≡ (y, None) → load_from L N (u + b) limits y ≡ o → all d ≡ o
  limits_last d x y o is then last = units_took d x o is (bids_then x ∙ ap (λ (z : Outcome). onward z.0 z.1 (load_from L N (u + b) limits)) then ∙ last)

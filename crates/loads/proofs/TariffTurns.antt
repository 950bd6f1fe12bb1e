-- The tariffs of a strip, set one after the other.
use Rattle.std.proofs.Common.{◌≡◌, ℕ, zero, suc, ◌+◌, ◌-◌, ◌<◌, ◌≤◌, List, [], ◌∷◌, false, is_ok, Some, None, Ok, Err, Option, Result, sym, refl, ap, ◌∙◌, arith}
use Rattle.market.specs.Rows.{topmost}
use Rattle.market.specs.declared.refusals.Refusal.{Refusal}
use Rattle.book.specs.Calls as call
use Rattle.book.specs.Views.{View}
use Rattle.book.specs.Tables.{refusal}
use Rattle.book.specs.Histories.{turn}
use Rattle.sheet.specs.Layout.{tariff_of, strip_rows}
use Rattle.loads.specs.declared.faults.LoadFault.{LoadFault}
use Rattle.loads.specs.Faults.{fault_of}
use Rattle.loads.specs.Loads.{at_position, tariff_on, tariffs_from, strip_begun, stripped, Led}
use Rattle.loads.proofs.Whole.{joined}

-- What comes of tariffs: what the day shows, and what ended it.
abbrev pub Came : Type 0
Came = View × Option (Refusal × ℕ)

-- The next tariff tells what comes of all that are left.
pub next_tells :
    (g fen : ℕ) (s : List ℕ) (v x : View) (whole : Came) (o : Option Refusal) → g < 17 → fen ≡ tariff_of s g → whole ≡ tariffs_from (17 - g) g s v
    → o ≡ refusal v (call.tariff g fen) → x ≡ turn (call.tariff g fen) v → whole ≡ tariff_on o g x (tariffs_from (17 - (g + 1)) (g + 1) s)
next_tells g fen s v x whole o l read is answer day =
    let more : 17 - g ≡ suc (17 - (g + 1)) = omega (arith, l) in
    let next : suc g ≡ g + 1 = omega arith in
    is ∙ ap (λ (n : ℕ). tariffs_from n g s v) more
    ∙ ap (λ (f : ℕ). tariff_on (refusal v (call.tariff g f)) g (turn (call.tariff g f) v) (tariffs_from (17 - (g + 1)) (suc g) s)) (sym read)
    ∙ ap (λ (a : Option Refusal). tariff_on a g (turn (call.tariff g fen) v) (tariffs_from (17 - (g + 1)) (suc g) s)) (sym answer)
    ∙ ap (λ (y : View). tariff_on o g y (tariffs_from (17 - (g + 1)) (suc g) s)) (sym day)
    ∙ ap (λ (n : ℕ). tariff_on o g x (tariffs_from (17 - (g + 1)) n s)) next

-- A refusal ends it, and else it goes on.
pub tariff_ends :
    {X : Type 0} (o : Option Refusal) (g : ℕ) (x : View) (next : View → Came) (r : Result X LoadFault) → is_ok r ≡ false → fault_of r ≡ at_position g o
    → tariff_on o g x next ≡ (x, fault_of r)
tariff_ends None g x next (Err e) err same = absurd (let no : ⊥ = grind (arith, same) in no)
tariff_ends (Some q) g x next r err same = ap (λ (z : Option (Refusal × ℕ)). (x, z)) (sym same)
tariff_ends o g x next (Ok y) err same = absurd (let no : ⊥ = grind (arith, err) in no)

pub tariff_goes : (o : Option Refusal) (g : ℕ) (x : View) (next : View → Came) → at_position g o ≡ None → tariff_on o g x next ≡ next x
tariff_goes None g x next same = refl
tariff_goes (Some q) g x next same = absurd (let no : ⊥ = grind (arith, same) in no)

-- Tariffs lead from what the day showed by calls.
led_tariff : (v x : View) (o : Option Refusal) (g : ℕ) (f : View → Came) → Led v x → ((y : View) → Led y (f y).0) → Led v (tariff_on o g x f).0
led_tariff v x None g f one more = joined v x (f x).0 one (more x)
led_tariff v x (Some e) g f one more = one

pub led_tariffs : (n g : ℕ) (s : List ℕ) (v : View) → Led v (tariffs_from n g s v).0
led_tariffs zero g s v = ([], refl)
led_tariffs (suc n) g s v =
    led_tariff v (turn (call.tariff g (tariff_of s g)) v) (refusal v (call.tariff g (tariff_of s g))) g (tariffs_from n (suc g) s) (call.tariff g (tariff_of s g) ∷ [], refl)
    (λ (y : View). led_tariffs n (suc g) s y)

-- A strip that is long enough.
pub strip_begins : (s : List ℕ) (v : View) (came : Came) → None ≡ topmost (strip_rows s) → tariffs_from 17 0 s v ≡ came → stripped s v ≡ came
strip_begins s v came none is = ap (λ (o : Option Refusal). strip_begun o v (tariffs_from 17 0 s v)) (sym none) ∙ is

led_begun : (o : Option Refusal) (v : View) (rest : Came) → Led v rest.0 → Led v (strip_begun o v rest).0
led_begun None v rest led = led
led_begun (Some e) v rest led = ([], refl)

pub led_strip : (s : List ℕ) (v x : View) (o : Option (Refusal × ℕ)) → stripped s v ≡ (x, o) → Led v x
led_strip s v x o is =
    let led = led_begun (topmost (strip_rows s)) v (tariffs_from 17 0 s v) (led_tariffs 17 0 s v) in
    (led.0, sym (ap (λ (y : Came). y.0) is) ∙ led.1)

-- No tariff is left.
pub all_set : (g : ℕ) (s : List ℕ) (v : View) (whole : Came) → 17 ≤ g → whole ≡ tariffs_from (17 - g) g s v → whole ≡ (v, None)
all_set g s v whole l is =
    let over : 17 - g ≡ 0 = omega (arith, l) in
    is ∙ ap (λ (n : ℕ). tariffs_from n g s v) over

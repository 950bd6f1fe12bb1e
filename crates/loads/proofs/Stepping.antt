-- A load goes on behind a record that is accepted, and ends at one that is declined.
use Rattle.std.proofs.Common.{◌≡◌, ℕ, suc, ◌+◌, ◌-◌, ◌*◌, ◌<◌, ◌≤◌, false, List, ◌∷◌, drop, is_ok, Ok, Err, Option, Result, sym, ap, ◌∙◌, arith}
use Rattle.std.proofs.lemmas.List.{drop-drop}
use Rattle.market.specs.declared.refusals.Refusal.{Refusal}
use Rattle.screen.specs.Meaning.{Settings}
use Rattle.book.specs.Views.{View}
use Rattle.loads.specs.declared.faults.LoadFault.{LoadFault}
use Rattle.loads.specs.Faults.{fault_of}
use Rattle.loads.specs.Loads.{Record, records_in, Outcome, Desk, at_position, declines, day_after, settings_after, recorded, onward, load_from}

-- The records left at a position are the next and those behind it.
records_split : (size : ℕ) (first : List ℕ → Record) (p end : ℕ) (s : List ℕ) → p < end → records_in size first (end - p) s ≡ first s ∷ records_in size first (end - (p + 1)) (drop size s)
records_split size first p end s l =
    let more : end - p ≡ suc (end - (p + 1)) = omega (arith, l) in
    ap (λ (n : ℕ). records_in size first n s) more

-- What came of the record at a position tells what comes of all.
pub first_tells :
    (L N M K p end size : ℕ) (first : List ℕ → Record) (s : List ℕ) (whole : Outcome) (r : Record) (v w : View) (t u : Settings) (e : Option Refusal)
    → p < end → M ≡ L → K ≡ N → whole ≡ load_from L N p (records_in size first (end - p) s) (v, t) → r ≡ first s
    → e ≡ declines K r v → w ≡ day_after r v → u ≡ settings_after M K r (v, t)
    → whole ≡ onward (w, u) (at_position p e) (load_from L N (p + 1) (records_in size first (end - (p + 1)) (drop size s)))
first_tells L N M K p end size first s whole r v w t u e l layers nodes is read answer day set =
    let next : List Record = records_in size first (end - (p + 1)) (drop size s) in
    let one : suc p ≡ p + 1 = omega arith in
    is ∙ ap (λ (rs : List Record). load_from L N p rs (v, t)) (records_split size first p end s l)
    ∙ ap (λ (x : Record). onward (recorded L N p x (v, t)).0 (recorded L N p x (v, t)).1 (load_from L N (suc p) next)) (sym read)
    ∙ ap (λ (n : ℕ). onward (recorded n N p r (v, t)).0 (recorded n N p r (v, t)).1 (load_from L N (suc p) next)) (sym layers)
    ∙ ap (λ (n : ℕ). onward (recorded M n p r (v, t)).0 (recorded M n p r (v, t)).1 (load_from L N (suc p) next)) (sym nodes)
    ∙ (λ i. onward (sym day i, sym set i) (at_position p (sym answer i)) (load_from L N (one i) next))

-- What is left behind one record more of n bytes.
pub behind_more : (n p a : ℕ) (s rest behind : List ℕ) → a ≤ p → rest ≡ drop (n * (p - a)) s → behind ≡ drop n rest → behind ≡ drop (n * (p + 1 - a)) s
behind_more n p a s rest behind l is next =
    let one : p + 1 - a ≡ p - a + 1 = omega (arith, l) in
    let more : n * (p - a) + n ≡ n * (p - a + 1) = omega arith in
    next ∙ ap (drop n) is ∙ drop-drop n (n * (p - a)) s ∙ ap (λ (k : ℕ). drop k s) more ∙ ap (λ (k : ℕ). drop (n * k) s) (sym one)

-- A fault ends a load, and without one it goes on.
pub fault_ends : {X : Type 0} (d : Desk) (r : Result X LoadFault) (o : Option (Refusal × ℕ)) (next : Desk → Outcome) → is_ok r ≡ false → fault_of r ≡ o → onward d o next ≡ (d, fault_of r)
fault_ends d (Ok x) o next err same = absurd (let no : ⊥ = grind (arith, err) in no)
fault_ends d (Err e) o next err same = ap (λ (f : Option (Refusal × ℕ)). onward d f next) (sym same)

-- The bytes of a strip decide it, whatever comes behind them.
use Rattle.std.proofs.Common.{◌≡◌, ℕ, zero, suc, ◌+◌, ◌*◌, ◌<◌, ◌≤◌, ltb, List, ◌++◌, length, get_or, Some, None, Option, sym, refl, ap, ◌∙◌, arith}
use Rattle.std.proofs.lemmas.List.{get_or_append_left, length-append}
use Rattle.std.proofs.lemmas.Bool.{cond-false, le-ltb}
use Rattle.market.specs.Refusals.{sheet_refusal}
use Rattle.market.specs.Rows.{topmost}
use Rattle.market.specs.declared.refusals.Refusal.{Refusal}
use Rattle.market.specs.declared.refusals.SheetRefusal.TheVariants.{TooShort}
use Rattle.book.specs.Calls as call
use Rattle.book.specs.Views.{View}
use Rattle.book.specs.Tables.{refusal}
use Rattle.book.specs.Histories.{turn}
use Rattle.sheet.specs.Layout.{strip_bytes, strip_rows, tariff_of}
use Rattle.loads.specs.Loads.{Outcome, stripped, strip_begun, tariff_on, tariffs_from}
use Rattle.desk.specs.Texts.{strip_outcome}
use Rattle.desk.specs.Steps.{StripDecides}

-- A tariff within the first bytes.
front_tariff : (s rest : List ℕ) (g : ℕ) → 2 * g + 1 < length s → tariff_of (s ++ rest) g ≡ tariff_of s g
front_tariff s rest g l =
    let low : get_or (s ++ rest) (2 * g) 0 ≡ get_or s (2 * g) 0 = get_or_append_left s rest 0 (2 * g) (omega (arith, l)) in
    let high : get_or (s ++ rest) (2 * g + 1) 0 ≡ get_or s (2 * g + 1) 0 = get_or_append_left s rest 0 (2 * g + 1) l in
    cc

-- On with the same.
on_same : (o : Option Refusal) (g : ℕ) (v : View) (f h : View → View × Option (Refusal × ℕ)) → ((x : View) → f x ≡ h x) → tariff_on o g v f ≡ tariff_on o g v h
on_same None g v f h same = same v
on_same (Some e) g v f h same = refl

same_tariffs : (s rest : List ℕ) (n g : ℕ) (v : View) → 2 * (g + n) ≤ length s → tariffs_from n g (s ++ rest) v ≡ tariffs_from n g s v
same_tariffs s rest zero g v l = refl
same_tariffs s rest (suc n) g v l =
    ap (λ (fen : ℕ). tariff_on (refusal v (call.tariff g fen)) g (turn (call.tariff g fen) v) (tariffs_from n (suc g) (s ++ rest))) (front_tariff s rest g (omega (arith, l)))
    ∙ on_same (refusal v (call.tariff g (tariff_of s g))) g (turn (call.tariff g (tariff_of s g)) v) (tariffs_from n (suc g) (s ++ rest)) (tariffs_from n (suc g) s)
    (λ (x : View). same_tariffs s rest n (suc g) x (omega (arith, l)))

-- No row declines a strip that has its bytes.
strip_taken : (s : List ℕ) → strip_bytes ≤ length s → topmost (strip_rows s) ≡ None
strip_taken s long = cond-false (ltb (length s) strip_bytes) (Some (sheet_refusal TooShort)) None (le-ltb (length s) strip_bytes long)

same_strip : (s rest : List ℕ) (v : View) → strip_bytes ≤ length s → stripped (s ++ rest) v ≡ stripped s v
same_strip s rest v long =
    ap (λ (o : Option Refusal). strip_begun o v (tariffs_from 17 0 (s ++ rest) v)) (strip_taken (s ++ rest) (omega (arith, long, length-append s rest)) ∙ sym (strip_taken s long))
    ∙ ap (strip_begun (topmost (strip_rows s)) v) (same_tariffs s rest 17 0 v (omega (arith, long)))

pub strip_decides : (s : List ℕ) → StripDecides s
unfolding strip_outcome
strip_decides s rest d long = ap {B = Outcome} (λ (o : View × Option (Refusal × ℕ)). ((o.0, d.1), o.1)) (same_strip s rest d.0 long)

-- The limits opened one after the other.
use Rattle.std.proofs.Common.{◌≡◌, ℕ, zero, suc, ◌+◌, ◌<◌, true, false, is_ok, Ok, Err, Option, Result, sym, refl, ap, ◌∙◌, arith}
use Rattle.lawful.specs.Awards.{AwardSet}
use Rattle.market.specs.Maxima.{max_limit}
use Rattle.market.specs.Rows.{topmost}
use Rattle.market.specs.declared.refusals.Refusal.{Refusal}
use Rattle.market.specs.declared.refusals.ScreenRefusal.{ScreenRefusal}
use Rattle.screen.specs.Meaning.{Settings, with_setting, limit_rows, answer_of}
use Rattle.loads.specs.Loads.{unless_set, limited, opened_to}

-- A limit that is set where no row declines.
pub limited_by :
    {X : Type 0} (L N k most : ℕ) (t x : Settings) (r : Result X ScreenRefusal) → answer_of r ≡ topmost (limit_rows N k most)
    → (is_ok r ≡ true → x ≡ with_setting t L k most) → (is_ok r ≡ false → x ≡ t) → x ≡ limited L N k most t
limited_by L N k most t x (Ok y) answer set kept = set refl ∙ ap (λ (o : Option Refusal). unless_set o t (with_setting t L k most)) answer
limited_by L N k most t x (Err e) answer set kept = kept refl ∙ ap (λ (o : Option Refusal). unless_set o t (with_setting t L k most)) answer

-- One node more is open.
pub opened_more :
    {X : Type 0} (L N M K k : ℕ) (start t x : Settings) (r : Result X ScreenRefusal) → M ≡ L → K ≡ N → t ≡ opened_to L N k start
    → answer_of r ≡ topmost (limit_rows K k max_limit) → (is_ok r ≡ true → x ≡ with_setting t M k max_limit) → (is_ok r ≡ false → x ≡ t)
    → x ≡ opened_to L N (k + 1) start
opened_more L N M K k start t x r layers nodes is answer set kept =
    let next : suc k ≡ k + 1 = omega arith in
    limited_by M K k max_limit t x r answer set kept ∙ ap (λ (n : ℕ). limited n K k max_limit t) layers ∙ ap (λ (n : ℕ). limited L n k max_limit t) nodes
    ∙ ap (limited L N k max_limit) is ∙ ap (λ (n : ℕ). opened_to L N n start) next

-- The first node is there, so its limit is set.
first_set : {X : Type 0} (N : ℕ) (r : Result X ScreenRefusal) → answer_of r ≡ topmost (limit_rows N 0 max_limit) → 0 < N → is_ok r ≡ true
first_set N (Ok y) answer some = refl
first_set N (Err e) answer some = grind (arith, answer, some)

-- Nothing is taken once a limit was set.
pub still_open :
    {X S : Type 0} (ontop fresh : S → AwardSet) (s x : S) (N k : ℕ) (r : Result X ScreenRefusal) → answer_of r ≡ topmost (limit_rows N k max_limit)
    → (is_ok r ≡ true → ontop x ≡ fresh x) → (is_ok r ≡ false → x ≡ s) → (0 < k → 0 < N → ontop s ≡ fresh s) → 0 < N → ontop x ≡ fresh x
still_open ontop fresh s x N zero r answer set kept before some = set (first_set N r answer some)
still_open ontop fresh s x N (suc k) (Ok y) answer set kept before some = set refl
still_open ontop fresh s x N (suc k) (Err e) answer set kept before some =
    ap ontop (kept refl) ∙ before (omega arith) some ∙ ap fresh (sym (kept refl))

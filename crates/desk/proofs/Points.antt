-- A point that takes entries is cleared, listed and posted: no row declines one of these.
use Rattle.std.proofs.Common.{◌≡◌, true, false, not, ◌&&◌, leb, None, Option, sym, refl, ap, ◌∙◌, subst}
use Rattle.std.proofs.lemmas.Bool.{lt-leb, and_left, and_right, not_from_true}
use Rattle.lawful.specs.Awards.{AwardSet}
use Rattle.lawful.specs.Lawful.{Lawful}
use Rattle.market.specs.Maxima.{place_count}
use Rattle.market.specs.Refusals.{refusal_of}
use Rattle.market.specs.declared.refusals.Refusal.{Refusal}
use Rattle.screen.specs.Meaning.{Settings}
use Rattle.book.specs.Calls.{clear, post}
use Rattle.book.specs.Views.{View}
use Rattle.book.specs.Tables.{is_cleared, refusal}
use Rattle.book.specs.Histories.{unless, acted, turn}
use Rattle.loads.specs.Loads.{Desk}
use Rattle.desk.specs.Texts.{permitted, cleared_desk, posted_desk}
use Rattle.desk.specs.Steps.{Entering, Listed}
use Rattle.desk.proofs.Rows.{none_of_three}

-- A desk of a view and settings.
abbrev pub desk_with : Settings → View → Desk
desk_with t v = (v, t)

-- No row declines a clear.
pub clear_taken : (v : View) (A : AwardSet) (laws : Lawful place_count A) → Entering v → refusal v (clear A laws) ≡ None
clear_taken v A laws (before, entering) =
    none_of_three (leb 96 v.posted) (is_cleared v.stage && true) (not (is_cleared v.stage) && not true) (refusal_of 1 2 0) (refusal_of 2 2 0) (refusal_of 3 2 0)
    (lt-leb 96 v.posted before) (and_left (is_cleared v.stage) true entering) (and_right (not (is_cleared v.stage)) (not true) refl)

-- No row declines a post.
pub post_taken : (v : View) → Listed v → refusal v post ≡ None
post_taken v (before, listed) =
    none_of_three (leb 96 v.posted) (is_cleared v.stage && false) (not (is_cleared v.stage) && not false) (refusal_of 1 2 0) (refusal_of 2 2 0) (refusal_of 3 2 0)
    (lt-leb 96 v.posted before) (and_right (is_cleared v.stage) false refl) (and_left (not (is_cleared v.stage)) (not false) (not_from_true (is_cleared v.stage) listed))

-- What a clear leaves is the cleared desk, and its point is listed.
pub clear_leaves : (v x : View) (t : Settings) (laws : Lawful place_count (permitted t)) → Entering v → x ≡ turn (clear (permitted t) laws) v → desk_with t x ≡ cleared_desk (desk_with t v)
unfolding cleared_desk
clear_leaves v x t laws entering is =
    ap (desk_with t) (is ∙ ap (λ (o : Option Refusal). unless o v (acted (clear (permitted t) laws) v)) (clear_taken v (permitted t) laws entering))

pub cleared_listed : (v : View) (t : Settings) → Entering v → Listed (cleared_desk (desk_with t v)).0
unfolding cleared_desk
cleared_listed v t (before, entering) = (before, refl)

-- What a post leaves is the posted desk.
pub post_leaves : (x y : View) (t : Settings) → Listed x → y ≡ turn post x → desk_with t y ≡ posted_desk (desk_with t x)
unfolding posted_desk
post_leaves x y t listed is = ap (desk_with t) (is ∙ ap (λ (o : Option Refusal). unless o x (acted post x)) (post_taken x listed))

-- A clear and a post.
pub settle_leaves :
    (v x y : View) (t u : Settings) (laws : Lawful place_count (permitted t)) → Entering v → x ≡ turn (clear (permitted t) laws) v → y ≡ turn post x → u ≡ t
    → desk_with u y ≡ posted_desk (cleared_desk (desk_with t v))
settle_leaves v x y t u laws entering is then same =
    let one = clear_leaves v x t laws entering is in
    let listed : Listed x = subst (λ (d : Desk). Listed d.0) (sym one) (cleared_listed v t entering) in
    ap (λ (s : Settings). desk_with s y) same ∙ post_leaves x y t listed then ∙ ap posted_desk one

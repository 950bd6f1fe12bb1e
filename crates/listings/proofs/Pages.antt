-- Lines one behind the other on a page.
use Rattle.std.proofs.Common.{◌≡◌, ℕ, ◌+◌, ◌*◌, ◌≤◌, List, length, refl, ◌∙◌}
use Rattle.listings.specs.declared.writing.Page.{Page}
use Rattle.listings.specs.Listings.{line_above, lines_to}
use Rattle.listings.specs.Pages.{Added}
use Rattle.listings.proofs.Texts.{none_end, none_bytes}
use Rattle.listings.proofs.LinesTo.{Listed, listed_none, listed_more, listed_all}

-- Where there is no line the page stays.
pub added_none : (page : Page) (q : ℕ) (line : List ℕ) → q ≡ 0 → Added page page (line_above q line)
added_none page q line none = record {
  end = none_end page.end q line none;
  bytes = none_bytes page.buffer.now page.end q line none;
  long = refl;
  same = refl;
}

-- The lines below i stand on the page, behind what it held, each of them at most so long.
pub record ListedOn (before : Page) (f : ℕ → List ℕ) (most i : ℕ) (after : Page) : Type 0 where
  pub listed : Listed before.buffer.now before.end f most i after.buffer.now after.end
  pub same : after.buffer.ghost_name ≡ before.buffer.ghost_name

-- At first there are none.
pub on_none : (before : Page) (f : ℕ → List ℕ) (most : ℕ) → ListedOn before f most 0 before
on_none before f most = record { listed = listed_none before.buffer.now before.end f most; same = refl }

-- The next line is added behind them.
pub on_more :
    (before : Page) (f : ℕ → List ℕ) (most i : ℕ) (page next : Page)
    → ListedOn before f most i page → length (f i) ≤ most → page.end + most ≤ length before.buffer.now → Added page next (f i)
    → ListedOn before f most (i + 1) next
on_more before f most i page next on short room added = record {
  listed =
      listed_more before.buffer.now before.end f most i page.buffer.now page.end next.buffer.now next.end on.listed short room added.end added.bytes;
  same = added.same ∙ on.same;
}

-- Once all are passed, they are added.
pub on_all :
    (before : Page) (f : ℕ → List ℕ) (most i n : ℕ) (page : Page) → ListedOn before f most i page → i ≡ n
    → Added before page (lines_to n f) × (page.end ≤ before.end + n * most)
on_all before f most i n page on all =
    let done = listed_all before.buffer.now before.end f most i n page.buffer.now page.end on.listed all in
    (record { end = done.0; bytes = done.2; long = on.listed.long; same = on.same }, done.1)

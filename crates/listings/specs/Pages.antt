-- What a writer leaves of a page.
use Rattle.std.specs.Prelude.{◌≡◌, ℕ, ◌+◌, List, length}
use Rattle.lines.specs.Lines.{written}
use Rattle.listings.specs.declared.writing.Page.{Page}

-- a text was written at the end of the page, into the same buffer, and the page now ends behind it
pub record Added (before after : Page) (text : List ℕ) : Type 0 where
  pub end : after.end ≡ before.end + length text
  pub bytes : after.buffer.now ≡ written before.buffer.now before.end text
  pub long : length after.buffer.now ≡ length before.buffer.now
  pub same : after.buffer.ghost_name ≡ before.buffer.ghost_name

-- Every day was led to by a list of calls, and stores what its clearing declares.
use Rattle.std.specs.Prelude.{◌≡◌, suc, List}
use Rattle.lawful.specs.Awards.{AwardSet}
use Rattle.lawful.specs.Lawful.{Lawful}
use Rattle.market.specs.Maxima.{place_count, max_price}
use Rattle.outcome.specs.Outcome.{outcome}
use Rattle.clearing.specs.Declaration.{Declares}
use Rattle.book.specs.Views.{View, Money, entries_in}
use Rattle.book.specs.Calls.{Call}
use Rattle.book.specs.Histories.{history}
use Rattle.day.specs.declared.state.PointState.{PointState}
use Rattle.day.specs.declared.state.PointState.TheVariants as state

-- what a state stores of a point that shows v: where it is cleared, the tables of a clearing under a lawful set
abbrev pub Stored : View → PointState → Type 0
Stored v state.Entering = Unit {0}
Stored v (state.Cleared c) = (A : AwardSet) × Lawful place_count A × Declares (entries_in v) (suc max_price) (outcome A (entries_in v)) c

-- A list of calls led to a day that shows v, and its state stores what its clearing declares.
abbrev pub Followed : View → PointState → Type 0
Followed v s = (h : List Call) × (v ≡ history h) × Stored v s

-- A list of calls led to these accounts.
abbrev pub Settled : Money → Type 0
Settled m = (h : List Call) × (m ≡ (history h).money)

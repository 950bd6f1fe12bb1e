-- What holds after every list of calls.
use Rattle.std.specs.Prelude.{◌≡◌, ℕ, ◌+◌, ◌*◌, ◌<◌, ◌≤◌, true, List, ◌++◌, Some, None, Option, slice_index}
use Rattle.lawful.specs.Sums.{sum_to}
use Rattle.lawful.specs.Awards.{AwardSet}
use Rattle.lawful.specs.Lawful.{Lawful}
use Rattle.lawful.specs.Worth.{Most, MostOfTotal, Cheapest, up_to}
use Rattle.market.specs.Maxima.{unit_count, grid_count, place_count, bands_of_unit}
use Rattle.outcome.specs.Entries.{level}
use Rattle.outcome.specs.Laws.{permitted}
use Rattle.outcome.specs.Outcome.{outcome}
use Rattle.outcome.specs.View.{figure_of}
use Rattle.book.specs.Views.{View, Stage, entering, cleared, Declaration, declared, Money, entries_in}
use Rattle.book.specs.Calls.{Call}
use Rattle.book.specs.Money.{charge_of, receipt_at}
use Rattle.book.specs.Histories.{history, under}
use Rattle.book.specs.Posts.{SumsOfPosts}

-- A declaration under the set A, at a point that shows v: what clearing yields, permitted, within headroom, cheapest for its total,
-- the cleaner class first among equal prices, and no buyer left short while more could be drawn within its bid.
pub record DeclaredWell (A : AwardSet) (v : View) (d : Declaration) : Type 0 where
  pub yields : d ≡ declared (outcome A (entries_in v))
  pub in_set : A d.award ≡ true
  pub in_headroom : (p : ℕ) → p < place_count → d.award p ≤ (entries_in v).capacity p
  pub dominant : (l : ℕ) → MostOfTotal place_count (permitted A (entries_in v)) (up_to (level (entries_in v)) l) d.award
  pub cheapest : Cheapest place_count (permitted A (entries_in v)) (entries_in v).landed d.award
  pub served : (g : ℕ) → g < grid_count → d.got g ≤ (entries_in v).need g
  pub short : (g : ℕ) → g < grid_count → d.got g < (entries_in v).need g → Most place_count (permitted A (entries_in v)) (up_to (entries_in v).landed ((entries_in v).bid g)) d.award

-- the stage of a point that a clear under A left cleared, and of one that none did
abbrev pub StageWell : View → Stage → Option AwardSet → Type 0
StageWell v entering None = Unit {0}
StageWell v entering (Some A) = ⊥
StageWell v (cleared d) None = ⊥
StageWell v (cleared d) (Some A) = Lawful place_count A × DeclaredWell A v d

-- what units, grids and branch received
abbrev pub receipts : Money → ℕ
receipts m = sum_to unit_count m.unit + sum_to grid_count m.wires + m.branch

-- In a post no buyer is charged above bid × share, and no unit is paid below award × 100 × offer, place by place.
pub record FairPost (v : View) (d : Declaration) : Type 0 where
  pub within_bids : (g : ℕ) → g < grid_count → charge_of d g ≤ (entries_in v).bid g * d.got g
  pub above_offers :
      (u band : ℕ) → u < unit_count → band < bands_of_unit
      → d.award (bands_of_unit * u + band) * (100 * figure_of (λ r. slice_index r.offers band) (v.offers u)) ≤ receipt_at v d u band

abbrev pub StageFair : View → Stage → Type 0
StageFair v entering = Unit {0}
StageFair v (cleared d) = FairPost v d

-- After every list of calls: the stage is well, a post of it would be fair, and the money charged is exactly the money received.
pub record KeepsThePromise (h : List Call) : Type 0 where
  pub stage : StageWell (history h) (history h).stage (under h)
  pub fair : StageFair (history h) (history h).stage
  pub even : sum_to grid_count (history h).money.charge ≡ receipts (history h).money

abbrev pub Promise : Type 0
Promise = (h : List Call) → KeepsThePromise h

-- The promise, and the accounts as the sums over the accepted posts, at every moment of a list of calls: after all of them, and after those
-- that came before any of them.
abbrev pub KeptThroughout : List Call → Type 0
KeptThroughout h = (later earlier : List Call) → h ≡ later ++ earlier → KeepsThePromise earlier × SumsOfPosts earlier

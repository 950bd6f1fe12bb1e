-- What comes of the calls of a day, by what is handed over and what is handed back.
use Rattle.std.specs.Prelude.{◌≡◌, ℕ, ◌<◌, true, false, List, ◌∷◌, map, reverse, length, take, is_ok, vec_items, slice_index_or}
use Rattle.lawful.specs.Awards.{AwardSet}
use Rattle.lawful.specs.Lawful.{Lawful, above}
use Rattle.market.specs.Entries.{market_answer}
use Rattle.market.specs.Maxima.{place_count}
use Rattle.screen.specs.declared.Screen.{Ghosts}
use Rattle.book.specs.Calls as call
use Rattle.book.specs.Calls.{Call}
use Rattle.book.specs.Views.{View}
use Rattle.book.specs.Tables.{refusal}
use Rattle.book.specs.Histories.{turn, history, under}
use Rattle.book.specs.Promise.{StageWell, StageFair}
use Rattle.day.specs.Day.{accounts, award_at, stage_read, ClosesWell}
use Rattle.runs.specs.declared.DayCall.{DayCall}
use Rattle.runs.specs.declared.DayCall.TheVariants.{Tariff, Offer, Withdraw, Bid, Clear, Reopen, Post}
use Rattle.runs.specs.declared.Step.{Step}
use Rattle.runs.specs.declared.Ran.{Ran}

-- the fresh set of every screen is lawful
abbrev pub Laws : {S : Type 0} → (S → AwardSet) → Type 0
Laws {S} fresh = (s : S) → Lawful place_count (fresh s)

-- the call that is handed over; a clear counts by what its screen permits
abbrev pub call_of : {S : Type 0} → (fresh : S → AwardSet) → Laws fresh → DayCall S → Call
call_of fresh laws (Tariff grid fen) = call.tariff grid fen
call_of fresh laws (Offer raw) = call.offer raw
call_of fresh laws (Withdraw unit) = call.withdraw unit
call_of fresh laws (Bid grid price need) = call.bid grid price need
call_of fresh laws (Clear s) = call.clear (fresh s) (laws s)
call_of fresh laws Reopen = call.reopen
call_of fresh laws Post = call.post

abbrev pub calls_of : {S : Type 0} → (fresh : S → AwardSet) → Laws fresh → List (DayCall S) → List Call
calls_of fresh laws calls = map (call_of fresh laws) calls

-- the calls made before the one at k, the newest first
abbrev pub before : List Call → ℕ → List Call
before cs k = reverse (take k cs)

-- A call made on a day: every fresh set is lawful, the answer is the table's, and the day then shows the turn.
abbrev pub Makes : {S : Type 0} → Ghosts S → View → DayCall S → Step → View → Type 0
Makes screen day c step after =
    (laws : Laws screen.fresh)
    × (market_answer step.answer ≡ refusal day (call_of screen.fresh laws c))
    × (after ≡ turn (call_of screen.fresh laws c) day)

-- What a clear leaves of its screen: its settings; accepted, the awards declared are taken in it; declined, it is as it was.
pub record ScreenLeft {S : Type 0} (screen : Ghosts S) (s : S) (step : Step) (t : S) : Type 0 where
  pub set : (screen.settings t ≡ screen.settings s) × (screen.fresh t ≡ screen.fresh s)
  pub taken : is_ok step.answer ≡ true → screen.ontop t ≡ above (award_at (stage_read step.declared)) (screen.fresh s)
  pub declined : is_ok step.answer ≡ false → t ≡ s

-- What a call is when it is handed back: a clear with its screen, any other as it was.
abbrev pub Leaves : {S : Type 0} → Ghosts S → DayCall S → Step → DayCall S → Type 0
Leaves screen (Clear s) step after = (t : _) × (after ≡ Clear t) × ScreenLeft screen s step t
Leaves screen (Tariff grid fen) step after = after ≡ Tariff grid fen
Leaves screen (Offer raw) step after = after ≡ Offer raw
Leaves screen (Withdraw unit) step after = after ≡ Withdraw unit
Leaves screen (Bid grid price need) step after = after ≡ Bid grid price need
Leaves screen Reopen step after = after ≡ Reopen
Leaves screen Post step after = after ≡ Post

-- The same of each call of a list.
pub record LeavesEach {S : Type 0} (screen : Ghosts S) (given : List (DayCall S)) (steps : List Step) (after : List (DayCall S)) : Type 0 where
  pub long : length after ≡ length given
  pub each : (k : ℕ) (c : DayCall S) (step : Step) → k < length given → Leaves screen (slice_index_or given k c) (slice_index_or steps k step) (slice_index_or after k c)

-- What came of the call c after the calls h. Its answer is the table's. A declaration is there exactly if the calls so far leave the point
-- cleared; it is then what clearing yields, permitted, within headroom, cheapest, with no buyer short needlessly, and a post of it would be fair.
pub record StepWell (h : List Call) (c : Call) (step : Step) : Type 0 where
  pub answer : market_answer step.answer ≡ refusal (history h) c
  pub shows : (history (c ∷ h)).stage ≡ stage_read step.declared
  pub well : StageWell (history (c ∷ h)) (stage_read step.declared) (under (c ∷ h))
  pub fair : StageFair (history (c ∷ h)) (stage_read step.declared)

-- What came of a day of these calls: a step for each call, every step is well, and the day closes well.
pub record RanWell (cs : List Call) (ran : Ran) : Type 0 where
  pub long : length (vec_items ran.steps) ≡ length cs
  pub each : (k : ℕ) (c : Call) (step : Step) → k < length cs → StepWell (before cs k) (slice_index_or cs k c) (slice_index_or (vec_items ran.steps) k step)
  pub closes : ClosesWell (reverse cs) (accounts ran.day)

-- What comes of one call, by its way.
use Rattle.std.proofs.Common.{◌≡◌, true, false, is_ok, Result, sym, ap, ◌∙◌}
use mathlib.Core.Path.{subst⁻¹}
use Rattle.lawful.specs.Lawful.{above}
use Rattle.market.specs.Entries.{market_answer}
use Rattle.market.specs.declared.refusals.MarketRefusal.{MarketRefusal}
use Rattle.screen.specs.declared.Screen.{Ghosts}
use Rattle.book.specs.Views.{View, Stage}
use Rattle.book.specs.Tables.{refusal}
use Rattle.book.specs.Histories.{turn}
use Rattle.day.specs.Day.{shown, award_at, stage_read}
use Rattle.day.specs.declared.RunningDay.{RunningDay}
use Rattle.runs.specs.Runs.{Laws, call_of, Makes, ScreenLeft, Leaves}
use Rattle.runs.specs.declared.DayCall.{DayCall}
use Rattle.runs.specs.declared.Step.{Step}

module _ {S : Type 0} (screen : Ghosts S) where
  -- A call is made, and left, as its way has it.
  pub made_by_way :
      (laws : Laws screen.fresh) (v : View) (day last : RunningDay) (given way after : DayCall S) (step : Step) (came : Result (Unit {0}) MarketRefusal)
      → given ≡ way → day ≡ last → step.answer ≡ came
      → market_answer came ≡ refusal v (call_of screen.fresh laws way)
      → shown last ≡ turn (call_of screen.fresh laws way) v
      → Leaves screen way step after
      → Makes screen v given step (shown day) × Leaves screen given step after
  made_by_way laws v day last given way after step came is ended answered answer shows left =
      subst⁻¹ (λ c. Makes screen v c step (shown day) × Leaves screen c step after) is ((laws, ap market_answer answered ∙ answer, ap shown ended ∙ shows), left)

  -- What a clear leaves of its screen, told by the stage that the day then shows.
  pub screen_left :
      (s t : S) (step : Step) (stage : Stage) → stage_read step.declared ≡ stage
      → (screen.settings t ≡ screen.settings s) × (screen.fresh t ≡ screen.fresh s)
      → (is_ok step.answer ≡ true → screen.ontop t ≡ above (award_at stage) (screen.fresh s))
      → (is_ok step.answer ≡ false → t ≡ s)
      → ScreenLeft screen s step t
  screen_left s t step stage shows set taken declined = record {
    set = set;
    taken = λ ok. taken ok ∙ ap (λ x. above (award_at x) (screen.fresh s)) (sym shows);
    declined = declined;
  }

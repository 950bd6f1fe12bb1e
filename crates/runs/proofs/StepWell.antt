-- A call that answers by the table and leaves the day at the turn makes a step that is well.
use Rattle.std.proofs.Common.{◌≡◌, ℕ, ◌+◌, ◌<◌, List, [], ◌∷◌, reverse, length, get_or, take, refl, ap, ◌∙◌, subst}
use Rattle.std.proofs.lemmas.List.{take_more, reverse-append}
use Rattle.lawful.specs.Awards.{AwardSet}
use Rattle.market.specs.Entries.{market_answer}
use Rattle.book.specs.Calls.{Call}
use Rattle.book.specs.Views.{View}
use Rattle.book.specs.Tables.{refusal}
use Rattle.book.specs.Histories.{turn, history, under}
use Rattle.book.specs.Promise.{StageWell, StageFair}
use Rattle.book.proofs.Promised.{promise}
use Rattle.day.specs.Day.{stage_read}
use Rattle.runs.specs.Runs.{Laws, call_of, before, StepWell}
use Rattle.runs.specs.declared.DayCall.{DayCall}
use Rattle.runs.specs.declared.DayCall.TheVariants.{Tariff, Offer, Withdraw, Bid, Clear, Reopen, Post}
use Rattle.runs.specs.declared.Step.{Step}

-- A step is well where its answer is the table's and it tells the stage that the day then shows.
pub step_well :
    (h : List Call) (c : Call) (step : Step) → market_answer step.answer ≡ refusal (history h) c → (history (c ∷ h)).stage ≡ stage_read step.declared
    → StepWell h c step
step_well h c step answer shows =
    let kept = promise (c ∷ h) in
    record {
      answer = answer;
      shows = shows;
      well = subst (λ s. StageWell (history (c ∷ h)) s (under (c ∷ h))) shows kept.stage;
      fair = subst (λ s. StageFair (history (c ∷ h)) s) shows kept.fair;
    }

-- The calls made before the next one have the last one at their head.
pub before_more : (cs : List Call) (i : ℕ) (c : Call) → i < length cs → before cs (i + 1) ≡ get_or cs i c ∷ before cs i
before_more cs i c l = ap reverse (take_more cs i c l) ∙ reverse-append (take i cs) (get_or cs i c ∷ [])

-- By whichever proof the fresh sets are lawful, the answer is the same.
pub same_refusal : {S : Type 0} (fresh : S → AwardSet) (laws other : Laws fresh) (c : DayCall S) (v : View) → refusal v (call_of fresh laws c) ≡ refusal v (call_of fresh other c)
same_refusal fresh laws other (Tariff grid fen) v = refl
same_refusal fresh laws other (Offer raw) v = refl
same_refusal fresh laws other (Withdraw unit) v = refl
same_refusal fresh laws other (Bid grid price need) v = refl
same_refusal fresh laws other (Clear s) v = refl
same_refusal fresh laws other Reopen v = refl
same_refusal fresh laws other Post v = refl

-- So is the turn.
pub same_turn : {S : Type 0} (fresh : S → AwardSet) (laws other : Laws fresh) (c : DayCall S) (v : View) → turn (call_of fresh laws c) v ≡ turn (call_of fresh other c) v
same_turn fresh laws other (Tariff grid fen) v = refl
same_turn fresh laws other (Offer raw) v = refl
same_turn fresh laws other (Withdraw unit) v = refl
same_turn fresh laws other (Bid grid price need) v = refl
same_turn fresh laws other (Clear s) v = refl
same_turn fresh laws other Reopen v = refl
same_turn fresh laws other Post v = refl

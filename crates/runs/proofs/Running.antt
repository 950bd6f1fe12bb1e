-- A day with its first calls made.
use Rattle.std.proofs.Common.{◌≡◌, ℕ, ◌+◌, ◌<◌, ◌≤◌, ◌≢◌, List, [], ◌∷◌, ◌++◌, reverse, length, get_or, set, vec_items, sym, refl, ap, ◌∙◌, subst, arith, below_more}
use mathlib.Core.Path.{subst⁻¹}
use Rattle.std.proofs.lemmas.List.{take_all, length-map, length-set, length_push, get_or_push, get_or_append_left, get_or-set_same, get_or-set_other, get_or-map, get_or_default}
use Rattle.market.specs.Entries.{market_answer}
use Rattle.screen.specs.declared.Screen.{Ghosts}
use Rattle.book.specs.Calls.{Call}
use Rattle.book.specs.Views.{View, empty_day}
use Rattle.book.specs.Tables.{refusal}
use Rattle.book.specs.Histories.{turn, history}
use Rattle.day.specs.Day.{accounts, stage_read, ClosesWell}
use Rattle.runs.specs.Runs.{Laws, call_of, calls_of, before, Makes, Leaves, LeavesEach, StepWell, RanWell}
use Rattle.runs.specs.declared.DayCall.{DayCall}
use Rattle.runs.specs.declared.Step.{Step}
use Rattle.runs.specs.declared.Ran.{Ran}
use Rattle.runs.proofs.StepWell.{step_well, before_more, same_refusal, same_turn}

-- The first i of the given calls are made and left, with a step each; the day shows what they lead to, and the rest are as given.
pub record Running {S : Type 0} (screen : Ghosts S) (laws : Laws screen.fresh) (given : List (DayCall S)) (i : ℕ) (steps : List Step) (calls : List (DayCall S)) (v : View) : Type 0 where
  pub within : i ≤ length given
  pub made : length steps ≡ i
  pub long : length calls ≡ length given
  pub shows : v ≡ history (before (calls_of screen.fresh laws given) i)
  pub each : (k : ℕ) → k < i → (c : Call) (step : Step) → StepWell (before (calls_of screen.fresh laws given) k) (get_or (calls_of screen.fresh laws given) k c) (get_or steps k step)
  pub left : (k : ℕ) → k < i → (c : DayCall S) (step : Step) → Leaves screen (get_or given k c) (get_or steps k step) (get_or calls k c)
  pub rest : (k : ℕ) → i ≤ k → (c : DayCall S) → get_or calls k c ≡ get_or given k c

module _ {S : Type 0} (screen : Ghosts S) (laws : Laws screen.fresh) (given : List (DayCall S)) where
  -- Before the first call the day is empty.
  pub running_none : (steps : List Step) (v : View) → steps ≡ [] → v ≡ empty_day → Running screen laws given 0 steps given v
  running_none steps v none start = record {
    within = omega arith;
    made = ap length none;
    long = refl;
    shows = start;
    each = λ k l. absurd (let no : ⊥ = omega arith in no);
    left = λ k l. absurd (let no : ⊥ = omega arith in no);
    rest = λ k l c. refl;
  }

  -- One call more is made, and left as its contract has it.
  pub running_more :
      (i : ℕ) (steps more : List Step) (calls : List (DayCall S)) (v x : View) (c e t : DayCall S) (step : Step)
      → Running screen laws given i steps calls v → i < length calls → c ≡ get_or calls i e → more ≡ steps ++ step ∷ []
      → Makes screen v c step x → stage_read step.declared ≡ x.stage → Leaves screen c step t
      → Running screen laws given (i + 1) more (set calls i t) x
  running_more i steps more calls v x c e t step run l is pushed made stage left =
      let cs = calls_of screen.fresh laws given in
      let one = call_of screen.fresh laws c in
      let within : i < length given = omega (arith, run.long) in
      let among : i < length cs = omega (arith, within, length-map given (call_of screen.fresh laws)) in
      let here : c ≡ get_or given i e = is ∙ run.rest i (omega arith) e in
      let at : (d : Call) → get_or cs i d ≡ one = λ d. get_or-map (call_of screen.fresh laws) given i e d within ∙ ap (call_of screen.fresh laws) (sym here) in
      let answer : market_answer step.answer ≡ refusal (history (before cs i)) one =
      made.1 ∙ same_refusal screen.fresh made.0 laws c v ∙ ap (λ u. refusal u one) run.shows in
      let turned : x ≡ history (one ∷ before cs i) = made.2 ∙ same_turn screen.fresh made.0 laws c v ∙ ap (turn one) run.shows in
      let well : StepWell (before cs i) one step = step_well (before cs i) one step answer (ap (λ u. u.stage) (sym turned) ∙ sym stage) in
      let last : (d : Step) → get_or more i d ≡ step = λ d. ap (λ ss. get_or ss i d) pushed ∙ get_or_push steps step d i run.made in
      let earlier : (k : ℕ) → k < i → (d : Step) → get_or more k d ≡ get_or steps k d =
      λ k j d. ap (λ ss. get_or ss k d) pushed ∙ get_or_append_left steps (step ∷ []) d k (omega (arith, run.made)) in
      record {
        within = omega (arith, within);
        made = ap length pushed ∙ length_push steps step ∙ ap (λ n. n + 1) run.made;
        long = length-set calls i t ∙ run.long;
        shows = turned ∙ ap (λ d. history (d ∷ before cs i)) (sym (at one)) ∙ ap history (sym (before_more cs i one among));
        each = below_more (λ k. (d : Call) (s : Step) → StepWell (before cs k) (get_or cs k d) (get_or more k s)) i
            (λ k j d s. subst⁻¹ (StepWell (before cs k) (get_or cs k d)) (earlier k j s) (run.each k j d s))
            (λ d s. subst⁻¹ (λ q. StepWell (before cs i) q (get_or more i s)) (at d) (subst⁻¹ (StepWell (before cs i) one) (last s) well));
        left = below_more (λ k. (d : DayCall S) (s : Step) → Leaves screen (get_or given k d) (get_or more k s) (get_or (set calls i t) k d)) i
            (λ k j d s.
            let ne : k ≢ i = λ e. (let no : ⊥ = omega (arith, e) in no) in
            subst⁻¹ (Leaves screen (get_or given k d) (get_or more k s)) (get_or-set_other calls i k t d ne)
            (subst⁻¹ (λ q. Leaves screen (get_or given k d) q (get_or calls k d)) (earlier k j s) (run.left k j d s)))
            (λ d s.
            subst⁻¹ (Leaves screen (get_or given i d) (get_or more i s)) (get_or-set_same calls i t d l)
            (subst⁻¹ (λ q. Leaves screen (get_or given i d) q t) (last s)
            (subst (λ q. Leaves screen q step t) (here ∙ get_or_default given i e d within) left)));
        rest = λ k j d.
            let ne : k ≢ i = λ e. (let no : ⊥ = omega (arith, e) in no) in
            get_or-set_other calls i k t d ne ∙ run.rest k (omega arith) d;
      }

  -- With all calls made the day went well, and each call is left as it should be.
  pub running_all :
      (i : ℕ) (calls : List (DayCall S)) (v : View) (ran : Ran) → Running screen laws given i (vec_items ran.steps) calls v → length given ≤ i
      → ((h : List Call) → v ≡ history h → ClosesWell h (accounts ran.day))
      → RanWell (calls_of screen.fresh laws given) ran × LeavesEach screen given (vec_items ran.steps) calls
  running_all i calls v ran run all closes =
      let cs = calls_of screen.fresh laws given in
      let many : length cs ≡ length given = length-map given (call_of screen.fresh laws) in (
        record {
          long = omega (arith, many, run.made, run.within);
          each = λ k c step l. run.each k (omega (arith, many)) c step;
          closes = closes (reverse cs) (run.shows ∙ ap (λ l. history (reverse l)) (take_all i cs (omega (arith, many))));
        },
        record {
          long = run.long;
          each = λ k c step l. run.left k (omega arith) c step;
        },
      )

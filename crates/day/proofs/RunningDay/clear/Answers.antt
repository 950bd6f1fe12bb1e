use Rattle.std.proofs.Common.{◌≡◌, Some, sym, ap, ◌∙◌, rules}
use Rattle.std.proofs.lemmas.Result.{err_from_is_err_and}
use Rattle.lawful.specs.Lawful.{above}
use Rattle.market.specs.Refusals.{market_refusal}
use Rattle.outcome.specs.View.{entries_of}
use Rattle.clearing.proofs.Ranges.{entries_ranged}
use Rattle.book.specs.Views.{cleared}
use Rattle.book.specs.Calls.{clear}
use Rattle.book.specs.Tables.{refusal}
use Rattle.book.specs.Histories.{turn, with_stage}
use Rattle.day.specs.Shown.{shown_of}
use Rattle.day.specs.Day.{shown}
use Rattle.day.specs.declared.state.PointState.TheVariants.{Cleared}
use Rattle.day.proofs.Declarations.{tables_declare}
use Rattle.day.proofs.ClearedDay as cleared-day
use Rattle.day.proofs.Following.{led_on, accepted_turn, declined_turn}
use Rattle.day.proofs.RunningDay.clear.Goals as goal

pub returns-in_err-admit : goal.returns-in_err-admit
returns-in_err-admit g c =
    let d = c.args.self.now in
    let s = c.args.screen.now in
    let laws = g.met.S.Screen.fresh_lawful s in
    let p = err_from_is_err_and c.from_residual.result c.from_residual.ensures.1 in
    let told = c.in_err-admit.ensures in
    let row = market_refusal p.0 in
    let declined : refusal (shown d) (clear (g.S.Screen.fresh s) laws) ≡ Some row = sym (rw (← p.2) at told) in
    record {
      day = (laws, rw p.1 (sym declined), sym (declined_turn (shown d) (clear (g.S.Screen.fresh s) laws) row declined));
      declared = rw p.1 (search rules);
      taken = rw p.1 (search rules);
      set = search rules;
      declined = search rules;
    }

pub invariant_of-self : goal.invariant_of-self
invariant_of-self g c =
    let d = c.args.self.now in
    let s = c.args.screen.now in
    let A = g.S.Screen.fresh s in
    let laws = g.met.S.Screen.fresh_lawful s in
    let e = entries_of c.entries-entries.result in
    let ranged = entries_ranged c.entries-entries.result in
    let told = c.clear.ensures in
    let tables = c.clear.result in
    let after = shown_of d.posted d.entered d.register (Cleared tables) d.ledger in
    let is = cleared-day.declaration_is A laws d.register e tables ranged c.entries-entries.ensures told.sums told.declared in
    let stored = cleared-day.stored A laws d.register e tables ranged c.entries-entries.ensures told.sums told.declared in
    let accepted = accepted_turn (shown d) (clear A laws) (sym c.in_ok-admit.ensures) in
    let shows : after ≡ turn (clear A laws) (shown d) = ap (λ x. with_stage (cleared x) (shown d)) is ∙ sym accepted in
    record { followed = led_on (shown d) after d.state (Cleared tables) (clear A laws) d.followed shows (A, laws, stored) }

pub returns : goal.returns
returns g c =
    let d = c.args.self.now in
    let s = c.args.screen.now in
    let A = g.S.Screen.fresh s in
    let laws = g.met.S.Screen.fresh_lawful s in
    let e = entries_of c.entries-entries.result in
    let ranged = entries_ranged c.entries-entries.result in
    let told = c.clear.ensures in
    let tables = c.clear.result in
    let same = c.entries-entries.ensures in
    let is = cleared-day.declaration_is A laws d.register e tables ranged same told.sums told.declared in
    let accepted = accepted_turn (shown d) (clear A laws) (sym c.in_ok-admit.ensures) in
    let award = ap (λ x. x.award) (tables_declare A e tables ranged told.sums told.declared) in
    record {
      day = (laws, c.in_ok-admit.ensures, ap (λ x. with_stage (cleared x) (shown d)) is ∙ sym accepted);
      declared = λ ok. (laws, cleared-day.declared_well A laws d.register e tables ranged same told.sums told.declared d.posted d.entered (Cleared tables) d.ledger);
      taken = λ ok. told.opened ∙ ap (λ x. above x A) (sym award);
      set = (told.set, g.met.S.Screen.decided _ _ told.set);
      declined = search rules;
    }

use Rattle.std.proofs.Common.{◌≡◌, ◌+◌, get_or, sym, refl, ap, ◌∙◌, subst, add-one, arith, rules}
use mathlib.Core.Path.{fun_ext}
use lib.ListN.{get_or-replicate}
use Rattle.lawful.specs.Lawful.{above}
use Rattle.outcome.specs.Outcome.{outcome}
use Rattle.outcome.specs.View.{entries_of}
use Rattle.outcome.proofs.Bids.{bid_le}
use Rattle.outcome.proofs.Worthy.{clearing_is_worthy}
use Rattle.outcome.proofs.Sound.{segments_are_sound}
use Rattle.outcome.proofs.WorkedGroups.{worked_ties}
use Rattle.clearing.specs.Awarded.{award_of}
use Rattle.clearing.specs.Declaration.{Declares, blank_segment}
use Rattle.clearing.specs.Progress.{Reached}
use Rattle.clearing.specs.Sequence.{Sequence}
use Rattle.clearing.proofs.Ranges.{entries_ranged}
use Rattle.clearing.proofs.Declarations.{reached_none, reached_between, zeros_at}
use Rattle.clearing.proofs.segments.clear.Given as given
use Rattle.clearing.proofs.segments.clear.Goals as goal

pub loop-bid-init : goal.loop-bid-init
loop-bid-init g c =
    let told = c.blank-cleared.ensures in
    let tiers : Sequence (entries_of c.args.entries.now) c.tiers-above.result.now = rw c.tiers-above.ensures.tiers c.new-sequence.ensures.sequence in (
      refl,
      refl,
      reached_none (g.S.Screen.fresh c.start-drawing.result.screen.now) (entries_of c.args.entries.now) c.tiers-above.result.now c.blank-cleared.result tiers
          (λ p. ap (λ xs. get_or xs p 0) told.awards ∙ zeros_at 256 p)
          (λ k. ap (λ xs. get_or xs k 0) told.got ∙ zeros_at 16 k)
          told.segments.1
          (λ k d l. ap (λ xs. get_or xs k d) told.segments.0 ∙ get_or-replicate 16 k blank_segment d l),
      told.awards ∙ sym c.start-drawing.ensures.none,
      c.tiers-above.ensures.few,
      omega arith,
    )

pub work_segment-above-requires-clause-reached : goal.work_segment-above-requires-clause-reached
work_segment-above-requires-clause-reached g c =
    let A = g.S.Screen.fresh c.start-drawing.result.screen.now in
    let e = entries_of c.args.entries.now in
    let inv = c.loop-bid.invariant in
    let next = c.in-Some.ensures in
    let same = sym (g.met.S.Screen.decided c.loop-bid.drawing.screen.now c.start-drawing.result.screen.now inv.1) in
    subst (λ B. Reached B e c.in-Some.bid c.loop-bid.above.now c.loop-bid.cleared) same
    (reached_between A e c.loop-bid.from c.in-Some.bid c.loop-bid.above.now c.loop-bid.cleared next.0 next.2 inv.2)

pub overflow_add-from : goal.overflow_add-from
overflow_add-from g c = let e = c.args.entries.now in omega (arith, bid_le (entries_of e) (entries_ranged e) c.in-Some.bid c.in-Some.ensures.1)

pub loop-bid-preserved : goal.loop-bid-preserved
loop-bid-preserved g c =
    let entries = c.args.entries.now in
    let e = entries_of entries in
    let b = c.in-Some.bid in
    let inv = c.loop-bid.invariant in
    let worked = c.work_segment-above in
    let same = g.met.S.Screen.decided c.loop-bid.drawing.screen.now c.start-drawing.result.screen.now inv.1 in (
      worked.ensures.same.0 ∙ inv.0,
      worked.ensures.same.1 ∙ inv.1,
      subst (λ A. Reached A e (b + 1) worked.result.now worked.new.cleared) same (rw add-one worked.ensures.reached),
      worked.ensures.awards,
      omega (arith, worked.ensures.few, inv.4),
      omega (arith, bid_le e (entries_ranged entries) b c.in-Some.ensures.1),
    )

pub loop-bid-smaller : goal.loop-bid-smaller
loop-bid-smaller g c =
    let entries = c.args.entries.now in
    omega (arith, c.in-Some.ensures.0, bid_le (entries_of entries) (entries_ranged entries) c.in-Some.bid c.in-Some.ensures.1)

-- In the end the tables declare the outcome under what the screen permits at the start.
all_declared : (g : given.Over) (c : goal.After-screen-1 g) → Declares (entries_of c.args.entries.now) 200001 (outcome (g.S.Screen.fresh c.args.screen.now) (entries_of c.args.entries.now)) c.loop-bid.cleared
all_declared g c =
    let e = entries_of c.args.entries.now in
    let inv = c.loop-bid.invariant in
    let A = g.S.Screen.fresh c.start-drawing.result.screen.now in
    let same : A ≡ g.S.Screen.fresh c.args.screen.now = g.met.S.Screen.decided c.start-drawing.result.screen.now c.args.screen.now c.start-drawing.ensures.same.1 in
    subst (λ B. Declares e 200001 (outcome B e) c.loop-bid.cleared) same
    (reached_between A e c.loop-bid.from 200001 c.loop-bid.above.now c.loop-bid.cleared inv.5 (λ k low high. c.in_default.ensures k low) inv.2).declared

pub returns-clause-declared : goal.returns-clause-declared
returns-clause-declared g c = all_declared g c

pub returns-clause-opened : goal.returns-clause-opened
returns-clause-opened g c =
    let drawing = c.loop-bid.drawing in
    let inv = c.loop-bid.invariant in
    let A = g.S.Screen.fresh c.args.screen.now in
    let same : g.S.Screen.fresh drawing.screen.now ≡ A = g.met.S.Screen.decided drawing.screen.now c.args.screen.now (inv.1 ∙ c.start-drawing.ensures.same.1) in
    let award = ap award_of (sym inv.3) ∙ fun_ext (all_declared g c).awards in
    ap g.S.Screen.ontop (search rules) ∙ drawing.opened ∙ ap (above (award_of drawing.awards)) same ∙ ap (λ z. above z A) award

pub returns-clause-worthy : goal.returns-clause-worthy
returns-clause-worthy g c =
    clearing_is_worthy (g.S.Screen.fresh c.args.screen.now) (entries_of c.args.entries.now) (g.met.S.Screen.fresh_lawful c.args.screen.now) (entries_ranged c.args.entries.now)

pub returns-clause-segments : goal.returns-clause-segments
returns-clause-segments g c =
    (segments_are_sound (g.S.Screen.fresh c.args.screen.now) (entries_of c.args.entries.now) (g.met.S.Screen.fresh_lawful c.args.screen.now) (entries_ranged c.args.entries.now)).0

pub returns-clause-sums : goal.returns-clause-sums
returns-clause-sums g c =
    (segments_are_sound (g.S.Screen.fresh c.args.screen.now) (entries_of c.args.entries.now) (g.met.S.Screen.fresh_lawful c.args.screen.now) (entries_ranged c.args.entries.now)).1

pub returns-clause-worked : goal.returns-clause-worked
returns-clause-worked g c = worked_ties

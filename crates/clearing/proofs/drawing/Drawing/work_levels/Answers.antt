use Rattle.std.proofs.Common.{◌≡◌, suc, ◌+◌, ◌-◌, ◌*◌, ◌/◌, ◌<◌, ◌≤◌, cond, ltb, length, get_or, take, sym, refl, ap, ◌∙◌, arith}
use Rattle.std.specs.Option.{option_copied}
use Rattle.std.proofs.lemmas.Option.{get_or_from_slice_get}
use Rattle.std.proofs.lemmas.Bool.{lt-ltb, le-ltb}
use Rattle.market.specs.declared.tiers.Tier.{Tier}
use Rattle.outcome.specs.Groups.{total}
use Rattle.clearing.specs.Awarded.{award_of, places_of, capacities_of}
use Rattle.clearing.specs.Sequence.{level_of}
use Rattle.clearing.proofs.SweptLevels.{worked_none, worked_run, worked_all, level_landed, lands_within, lands_above, same_work}
use Rattle.clearing.proofs.drawing.Drawing.work_levels.Goals as goal
use Rattle.clearing.proofs.drawing.Drawing.work_levels.Goals.{in-Some+then-bid-landed, in_default, then-more-gt0, else-more-gt0}

pub loop-lowest-init : goal.loop-lowest-init
loop-lowest-init g c =
    let before = c.args.self.now in
    let z = award_of before.awards in (
      refl,
      refl,
      omega arith,
      omega arith,
      omega arith,
      λ e low s le. worked_none (g.S.Screen.fresh before.screen.now) e (total z + c.args.want) low (8 * suc c.args.bid) z c.args.ranked.now s le,
    )

pub loop-lowest-preserved : goal.loop-lowest-preserved
loop-lowest-preserved g c =
    let inv = c.loop-lowest.invariant in
    let more = c.work_group-more.ensures in
    let group = c.group_end.ensures in
    let ts = c.loop-lowest.above.now in
    let j = c.group_end.result in
    let tier = c.in-Some.lowest.now in
    let before = c.args.self.now in
    let fresh = g.S.Screen.fresh before.screen.now in
    let start = award_of before.awards in
    let z = award_of c.loop-lowest.self.awards in
    let y = award_of c.work_group-more.new.self.awards in
    let goal = total start + c.args.want in
    let l = level_of tier in
    let one-goal : total z + (c.args.want - c.loop-lowest.quantity) ≡ goal = omega (arith, inv.3, inv.4) in
    let one_set : g.S.Screen.fresh c.loop-lowest.self.screen.now ≡ fresh = g.met.S.Screen.decided c.loop-lowest.self.screen.now before.screen.now inv.1 in
    let first = sym c.first.ensures.value ∙ ap option_copied c.in-Some.is in
    let at_level : (d : Tier) → level_of (get_or ts 0 d) ≡ l = λ d. ap level_of (get_or_from_slice_get ts 0 tier d first) in
    let within : l < 8 * suc c.args.bid = lands_within tier c.args.bid (omega (arith, c.fen-landed.ensures, c.if-bid-landed.false)) in
    let price-is : c.if-more-gt0.price ≡ cond (ltb (total z) (total y)) (l / 8) c.loop-lowest.price =
    elim c.if-more-gt0.branch [
      | then-more-gt0 w ↦
          let grew : total z < total y = omega (arith, more.taken.0, w.if-more-gt0.true) in
          rw (lt-ltb (total z) (total y) grew) (w.price-is ∙ c.fen-landed.ensures ∙ sym (level_landed tier))
      | else-more-gt0 w ↦
          let stayed : total y ≤ total z = omega (arith, more.taken.0, w.if-more-gt0.false) in
          rw (le-ltb (total z) (total y) stayed) w.price-is
    ] in (
      more.same.0 ∙ inv.0,
      more.same.1 ∙ inv.1,
      omega (arith, inv.2, c.split_at.ensures.back_len),
      omega (arith, inv.3, more.taken.0),
      omega (arith, inv.4, more.taken.1),
      λ e low s le.
          rw c.split_at.ensures.back
          (worked_run fresh e goal low (8 * suc c.args.bid) start ts z c.loop-lowest.price (inv.5 e low s le) j l group.within.0 group.within.1 within at_level group.same group.ends
          y c.if-more-gt0.price (same_work y z (places_of (take j ts)) (capacities_of (take j ts)) one_set one-goal (rw (sym c.split_at.ensures.front) more.award)) price-is),
    )

-- The first tier left lands above the bid, if there is one.
pub returns-clause-swept : goal.returns-clause-swept
returns-clause-swept g c =
    let inv = c.loop-lowest.invariant in
    let before = c.args.self.now in
    let ts = c.loop-lowest.above.now in
    let start = award_of before.awards in
    let outside : (d : Tier) → 0 < length ts → 8 * suc c.args.bid ≤ level_of (get_or ts 0 d) =
    λ d some.
    elim c.match-first.branch [
      | in-Some+then-bid-landed w ↦
          let tier = w.in-Some.lowest.now in
          let first = sym c.first.ensures.value ∙ ap option_copied w.in-Some.is in
          omega (arith, lands_above tier c.args.bid (omega (arith, w.fen-landed.ensures, w.if-bid-landed.true)), ap level_of (get_or_from_slice_get ts 0 tier d first))
      | in_default w ↦ absurd (let no : ⊥ = omega (arith, w.in_default.ensures.item.3) in no)
    ] in
    λ e low s le.
    worked_all (g.S.Screen.fresh before.screen.now) e (total start + c.args.want) low (8 * suc c.args.bid) start ts (award_of c.loop-lowest.self.awards) c.loop-lowest.price
    (inv.5 e low s le) outside

use Rattle.std.proofs.Common.{◌≡◌, ◌<◌, length, Some, None, sym, refl, ◌∙◌, arith, rules}
use Rattle.std.proofs.lemmas.List.{get_or_read_under}
use Rattle.clearing.proofs.Collecting.{collected_written, collected_kept}
use Rattle.clearing.proofs.sequence.collect_tiers.Goals as goal
use Rattle.clearing.proofs.sequence.collect_tiers.Goals.{in-Some+then-tier-gt0, in-Some+else-tier-gt0, in_default}

pub loop-place-preserved : goal.loop-place-preserved
loop-place-preserved c =
    let tiers = c.args.tiers.now in
    let n = c.loop-place.place in
    let count = c.loop-place.count in
    let ranked = c.loop-place.ranked in
    let inv = c.loop-place.invariant in
    let long : length c.match-slot.ranked ≡ 256 = search rules in
    let all : length tiers ≡ 256 = search rules in
    let room : count < length ranked = omega (arith, inv.0, inv.1, c.loop-place-test.true, all) in
    let there = sym c.index-tiers-place.is ∙ get_or_read_under tiers n 256 c.index-tiers-place.result None c.index-tiers-place.is c.loop-place-test.true (omega (arith, all)) in
    elim c.match-slot.branch [
      | in-Some+then-tier-gt0 w ↦ (
        omega (arith, inv.0, w.count-is),
        long,
        collected_written tiers n count ranked inv.2 w.in-Some.tier _ c.match-slot.count c.match-slot.ranked (sym w.in-Some.is ∙ there) room w.count-is w.ranked-is w.if-tier-gt0.true refl refl refl,
      )
      | in-Some+else-tier-gt0 w ↦ (
        omega (arith, inv.0, w.count-is),
        long,
        collected_kept tiers n count ranked inv.2 (Some w.in-Some.tier) c.match-slot.count c.match-slot.ranked (sym w.in-Some.is ∙ there) w.count-is w.ranked-is w.if-tier-gt0.false,
      )
      | in_default w ↦ (
        omega (arith, inv.0, w.count-is),
        long,
        collected_kept tiers n count ranked inv.2 None c.match-slot.count c.match-slot.ranked (sym w.in_default.is ∙ there) w.count-is w.ranked-is (omega arith),
      )
    ]

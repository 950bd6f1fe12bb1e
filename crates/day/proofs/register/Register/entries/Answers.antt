use Rattle.std.proofs.Common.{◌≡◌, length, None, arith}
use Rattle.book.specs.Views.{entries_in}
use Rattle.day.specs.Shown.{point_of}
use Rattle.day.specs.Tiers.{TierAt}
use Rattle.day.proofs.TableFunctions.{filled_more}
use Rattle.day.proofs.EntriesFilled.{entries_filled}
use Rattle.day.proofs.register.Register.entries.Goals as goal

pub loop-place-init : goal.loop-place-init
loop-place-init c k l = absurd (let no : ⊥ = omega arith in no)

pub loop-place-preserved : goal.loop-place-preserved
loop-place-preserved c =
    let register = c.args.self.now in
    filled_more (λ k t. TierAt (entries_in (point_of register)) k t × (length register.offers ≡ 64)) c.loop-place.slot-items c.loop-place.place c.tier_at.result None
    (omega arith) (c.tier_at.ensures.tier, c.tier_at.ensures.slots) c.loop-place.invariant

pub returns : goal.returns
returns c =
    let filled = c.loop-place.invariant in
    entries_filled c.args.self.now c.loop-place.slot-items c.loop-place-test.array_long (filled 0 (omega arith)).1 (λ p l. (filled p (omega arith)).0)

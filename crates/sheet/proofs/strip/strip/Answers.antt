use Rattle.std.proofs.Common.{◌≡◌, arith, rules}
use Rattle.sheet.proofs.Tariffs.{all_read}
use Rattle.sheet.proofs.strip.strip.Goals as goal

pub returns-clause-read : goal.returns-clause-read
returns-clause-read c =
    let at = c.loop-tariff in
    let all : at.tariff-index ≡ 17 = omega (arith, c.loop-tariff-test.false, at.auto.tariff-index-end) in
    (all_read c.args.bytes.now at.tariff-items at.tariff-index 17 all c.loop-tariff-test.array_long at.invariant.0, search rules)

use Rattle.std.proofs.Common.{rules, ◌≡◌, ℕ, ◌+◌, ◌-◌, false, List, get_or, is_ok, None, ap, ◌∙◌}
use Rattle.market.specs.Entries.{market_answer}
use Rattle.day.specs.Day.{shown}
use Rattle.sheet.proofs.Tariffs.{tariff_at_lem}
use Rattle.loads.specs.Faults.{fault_of}
use Rattle.loads.specs.Loads.{at_position, tariffs_from}
use Rattle.loads.proofs.TariffTurns.{next_tells, tariff_ends, tariff_goes, strip_begins, led_strip, all_set}
use Rattle.loads.proofs.strips.strip_onto.Goals as goal

pub returns-in_err-map_err-clause-load : goal.returns-in_err-map_err-clause-load
returns-in_err-map_err-clause-load c =
    let s = c.args.bytes.now in
    let v = shown c.args.day.now in
    let k = c.loop-grid.grid in
    let x = shown c.tariff.new.self in
    let o = market_answer c.tariff.result in
    let read = ap (λ (xs : List ℕ). get_or xs k 0) c.in_ok-tariffs.ensures.read.0 ∙ tariff_at_lem s 17 k c.loop-grid-test.true in
    let tells = next_tells k (get_or c.in_ok-tariffs.tariffs k 0) s (shown c.loop-grid.day) x (tariffs_from 17 0 s v) o c.loop-grid-test.true read c.loop-grid.invariant c.tariff.ensures.answer c.tariff.ensures.day in
    let r = c.from_residual-in_err-map_err.result in
    let err : is_ok r ≡ false = search rules in
    let fault : fault_of r ≡ at_position k o = search rules in
    strip_begins s v (x, fault_of r) c.in_ok-tariffs.ensures.answer (tells ∙ tariff_ends o k x (tariffs_from (17 - (k + 1)) (k + 1) s) r err fault)

pub returns-in_err-map_err-clause-calls : goal.returns-in_err-map_err-clause-calls
returns-in_err-map_err-clause-calls c =
    led_strip c.args.bytes.now (shown c.args.day.now) (shown c.tariff.new.self) (fault_of c.from_residual-in_err-map_err.result) (returns-in_err-map_err-clause-load c)

pub loop-grid-preserved : goal.loop-grid-preserved
loop-grid-preserved c =
    let s = c.args.bytes.now in
    let v = shown c.args.day.now in
    let k = c.loop-grid.grid in
    let x = shown c.tariff.new.self in
    let o = market_answer c.tariff.result in
    let read = ap (λ (xs : List ℕ). get_or xs k 0) c.in_ok-tariffs.ensures.read.0 ∙ tariff_at_lem s 17 k c.loop-grid-test.true in
    let tells = next_tells k (get_or c.in_ok-tariffs.tariffs k 0) s (shown c.loop-grid.day) x (tariffs_from 17 0 s v) o c.loop-grid-test.true read c.loop-grid.invariant c.tariff.ensures.answer c.tariff.ensures.day in
    let none : at_position k o ≡ None = search rules in
    tells ∙ tariff_goes o k x (tariffs_from (17 - (k + 1)) (k + 1) s) none

pub returns-clause-load : goal.returns-clause-load
returns-clause-load c =
    let s = c.args.bytes.now in
    let v = shown c.args.day.now in
    let x = shown c.loop-grid.day in
    strip_begins s v (x, None) c.in_ok-tariffs.ensures.answer (all_set c.loop-grid.grid s x (tariffs_from 17 0 s v) c.loop-grid-test.false c.loop-grid.invariant)

pub returns-clause-calls : goal.returns-clause-calls
returns-clause-calls c = led_strip c.args.bytes.now (shown c.args.day.now) (shown c.loop-grid.day) None (returns-clause-load c)

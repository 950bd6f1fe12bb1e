use Rattle.std.proofs.Common.{ℕ, Some, None, refl}
use Rattle.market.specs.declared.refusals.Refusal.{Refusal}
use Rattle.day.specs.Day.{shown}
use Rattle.grids.specs.GridSets.{settings_of}
use Rattle.loads.specs.Faults.{refusal_in, position_in}
use Rattle.desk.proofs.Working.{strip_tells, strip_long, strip_accepted, strip_declined}
use Rattle.desk.proofs.Desk.take_strip.Goals as goal

pub returns-in-Ok : goal.returns-in-Ok
returns-in-Ok c =
    let w = c.args.window.now in
    let v = shown c.args.self.now.day in
    let t = settings_of c.args.self.now.screen in
    let y = shown c.strip_onto.new.day in
    let told = c.in-Ok.ensures.load in
    strip_accepted w (v, t) (y, t) c.args.out.now c.args.out.now (record { day = c.strip_onto.new.day; screen = c.args.self.now.screen })
    (record { read = Some 34; wrote = 0 }) (strip_tells w v y t None told) refl refl refl refl (strip_long w v y told)

pub returns-in-Err : goal.returns-in-Err
returns-in-Err c =
    let w = c.args.window.now in
    let v = shown c.args.self.now.day in
    let t = settings_of c.args.self.now.screen in
    let y = shown c.strip_onto.new.day in
    let e : Refusal × ℕ = (refusal_in c.in-Err.fault, position_in c.in-Err.fault) in
    let line = c.write_fault.ensures in
    strip_declined w (v, t) (y, t) c.args.out.now c.write_fault.new.out (record { day = c.strip_onto.new.day; screen = c.args.self.now.screen })
    (record { read = None; wrote = c.write_fault.result }) e (strip_tells w v y t (Some e) c.in-Err.ensures.load) refl line.bytes line.long line.few refl

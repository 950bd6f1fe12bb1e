use Rattle.std.proofs.Common.{ℕ, Some, None, refl, ap, ◌∙◌}
use Rattle.market.specs.declared.refusals.Refusal.{Refusal}
use Rattle.day.specs.Day.{shown}
use Rattle.grids.specs.GridSets.{settings_of}
use Rattle.loads.specs.Faults.{refusal_in, position_in}
use Rattle.loads.specs.Loads.{Desk}
use Rattle.desk.specs.Steps.{desk_of}
use Rattle.desk.proofs.Accepted.{accepted_laid, accepted_entering}
use Rattle.desk.proofs.Windows.{needed_stated}
use Rattle.desk.proofs.Working.{load_tells, sheet_accepted, sheet_declined}
use Rattle.desk.proofs.Desk.take_sheet.Goals as goal

pub settle-requires : goal.settle-requires
settle-requires c =
    let w = c.args.window.now in
    let d : Desk = desk_of c.args.self.now in
    let x : Desk = (shown c.load.new.day, settings_of c.load.new.screen) in
    let is = load_tells w d (x, None) c.in-Ok.ensures.load in
    accepted_entering w d x is

pub returns-in-Ok : goal.returns-in-Ok
returns-in-Ok c =
    let w = c.args.window.now in
    let d : Desk = desk_of c.args.self.now in
    let x : Desk = (shown c.load.new.day, settings_of c.load.new.screen) in
    let is = load_tells w d (x, None) c.in-Ok.ensures.load in
    let laid = accepted_laid w d x is in
    let settled = c.settle.ensures in
    let read = c.wanted.ensures.need ∙ needed_stated w laid.header in
    sheet_accepted w d x c.args.out.now c.settle.new.out c.settle.new.self (record { read = Some c.wanted.result; wrote = c.settle.result })
    is settled.shows settled.bytes settled.long settled.few (ap Some read) laid.whole

pub returns-in-Err : goal.returns-in-Err
returns-in-Err c =
    let w = c.args.window.now in
    let d : Desk = desk_of c.args.self.now in
    let x : Desk = (shown c.load.new.day, settings_of c.load.new.screen) in
    let e : Refusal × ℕ = (refusal_in c.in-Err.fault, position_in c.in-Err.fault) in
    let is = load_tells w d (x, Some e) c.in-Err.ensures.load in
    let line = c.write_fault.ensures in
    sheet_declined w d x c.args.out.now c.write_fault.new.out (record { day = c.load.new.day; screen = c.load.new.screen })
    (record { read = None; wrote = c.write_fault.result }) e is refl line.bytes line.long line.few refl

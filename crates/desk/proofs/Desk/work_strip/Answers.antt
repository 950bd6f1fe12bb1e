use Rattle.std.proofs.Common.{length, rules}
use Rattle.sheet.specs.Layout.{strip_bytes}
use Rattle.desk.specs.Texts.{strip_text, strip_outcome}
use Rattle.desk.specs.Steps.{desk_of}
use Rattle.desk.proofs.Ahead.{strip_ahead}
use Rattle.desk.proofs.Working.{worked_front, room_answer}
use Rattle.desk.proofs.Desk.work_strip.Goals as goal

pub returns : goal.returns
returns c =
    let s = c.args.window.now in
    let d = desk_of c.args.self.now in
    let o = strip_outcome s d in
    let b = c.args.out.now in
    let first = c.in-Some.ensures.cases in
    let new = c.take_strip.new in
    let worked = worked_front (strip_text o) o.0 o.1 strip_bytes s b c.in-Some.line_room.now new.out new.self c.take_strip.result c.take_strip.ensures first.same first.enough in
    record {
      answer = room_answer (length b) first.enough;
      worked = worked;
      ahead = λ rest enough. strip_ahead s rest d b new.self _ c.take_strip.result enough worked;
      declined = search rules;
    }

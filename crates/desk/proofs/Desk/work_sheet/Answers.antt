use Rattle.std.proofs.Common.{length, rules}
use Rattle.sheet.specs.Layout.{header_of}
use Rattle.desk.specs.Texts.{sheet_text, sheet_desk, sheet_outcome}
use Rattle.desk.specs.Steps.{desk_of}
use Rattle.desk.proofs.Ahead.{sheet_ahead}
use Rattle.desk.proofs.Working.{worked_front, room_answer}
use Rattle.desk.proofs.Desk.work_sheet.Goals as goal

pub returns : goal.returns
returns c =
    let s = c.args.window.now in
    let d = desk_of c.args.self.now in
    let o = sheet_outcome s d in
    let b = c.args.out.now in
    let first = c.in-Some.ensures.cases in
    let new = c.take_sheet.new in
    let worked = worked_front (sheet_text o) (sheet_desk o) o.1 (header_of s).length s b c.in-Some.room.now new.out new.self c.take_sheet.result c.take_sheet.ensures first.same first.enough in
    record {
      answer = room_answer (length b) first.enough;
      worked = worked;
      ahead = λ rest decided. sheet_ahead s rest d b new.self _ c.take_sheet.result worked decided;
      declined = search rules;
    }

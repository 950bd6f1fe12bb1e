use Rattle.std.proofs.Common.{ℕ, List, ◌++◌, vec_items, ap, ◌∙◌}
use Rattle.desk.specs.Texts.{sheet_text, sheet_outcome}
use Rattle.desk.specs.Steps.{desk_of}
use Rattle.desk.proofs.Texts.{front_written}
use Rattle.desk.proofs.whole.add_sheet.Goals as goal

pub returns : goal.returns
returns c =
    let worked = c.take_sheet-step.ensures in
    let text = sheet_text (sheet_outcome c.args.sheets.now (desk_of c.args.desk.now)) in
    let front = front_written c.args.out.now text c.take_sheet-step.new.out c.take_sheet-step.result.wrote worked.bytes worked.wrote in
    record {
      sheet = record { shows = worked.shows; read = worked.read; within = worked.within };
      text = c.in_ok-extend_from_slice.ensures.items ∙ ap (λ (t : List ℕ). vec_items c.args.text.now ++ t) front;
    }

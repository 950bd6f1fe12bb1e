use Rattle.std.proofs.Common.{ℕ, List, ◌++◌, vec_items, sym, ap, ◌∙◌}
use Rattle.desk.specs.Texts.{strip_text, strip_outcome}
use Rattle.desk.specs.Steps.{desk_of}
use Rattle.desk.proofs.Texts.{front_written, input_ended, input_made}
use Rattle.desk.proofs.whole.add_input.Goals as goal

pub returns-in_default : goal.returns-in_default
returns-in_default c =
    let s = c.args.input.now in
    let d = desk_of c.args.desk.now in
    let worked = c.take_strip-step.ensures in
    let front = front_written c.args.out.now (strip_text (strip_outcome s d)) c.take_strip-step.new.out c.take_strip-step.result.wrote worked.bytes worked.wrote in
    input_ended (vec_items c.args.text.now) (vec_items c.extend_from_slice.new.self) d (desk_of c.take_strip-step.new.self) s
    (c.in_ok-extend_from_slice.ensures.items ∙ ap (λ (t : List ℕ). vec_items c.args.text.now ++ t) front) worked.shows
    (sym c.in_default.is ∙ worked.read)

pub returns : goal.returns
returns c =
    let s = c.args.input.now in
    let d = desk_of c.args.desk.now in
    let worked = c.take_strip-step.ensures in
    let front = front_written c.args.out.now (strip_text (strip_outcome s d)) c.take_strip-step.new.out c.take_strip-step.result.wrote worked.bytes worked.wrote in
    input_made c.add_sheets.result (vec_items c.args.text.now) (vec_items c.extend_from_slice.new.self) (vec_items c.add_sheets.new.text) c.in-Some.read
    d (desk_of c.take_strip-step.new.self) (desk_of c.add_sheets.new.desk) s
    (c.in_ok-extend_from_slice.ensures.items ∙ ap (λ (t : List ℕ). vec_items c.args.text.now ++ t) front) worked.shows (sym c.in-Some.is ∙ worked.read) c.add_sheets.ensures

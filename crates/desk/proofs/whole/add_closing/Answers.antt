use Rattle.std.proofs.Common.{take, vec_items}
use Rattle.desk.specs.Texts.{closing_text}
use Rattle.desk.specs.Steps.{desk_of}
use Rattle.desk.proofs.Texts.{front_written, added_made}
use Rattle.desk.proofs.whole.add_closing.Goals as goal

pub returns : goal.returns
returns c =
    let text = closing_text (desk_of c.args.desk) in
    let closed = c.write_closing-wrote in
    let out = closed.new.out in
    let front = front_written c.args.out.now text out closed.result closed.ensures.bytes closed.ensures.long in
    record {
      text = added_made c.extend_from_slice.result (vec_items c.args.text.now) (vec_items c.extend_from_slice.new.self) (take closed.result out) text c.extend_from_slice.ensures.items front;
      led = closed.ensures.led;
      promise = closed.ensures.promise;
    }

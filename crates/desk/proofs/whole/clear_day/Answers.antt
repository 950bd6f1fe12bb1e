use Rattle.std.proofs.Common.{vec_items, rules}
use Rattle.std.proofs.lemmas.Result.{err_from_is_err_and}
use Rattle.desk.specs.Steps.{desk_of}
use Rattle.desk.proofs.Closing.{ends_well}
use Rattle.desk.proofs.Enough.{sheets_enough}
use Rattle.desk.proofs.whole.clear_day.Goals as goal

pub returns-in_err-worked : goal.returns-in_err-worked
returns-in_err-worked c =
    let p = err_from_is_err_and c.from_residual.result c.from_residual.ensures.1 in
    record { text = rw p.1 (search rules); accounts = rw p.1 (search rules); enough = sheets_enough }

pub returns-in_err-closed : goal.returns-in_err-closed
returns-in_err-closed c =
    let p = err_from_is_err_and c.from_residual-in_err-closed.result c.from_residual-in_err-closed.ensures.1 in
    record { text = rw p.1 (search rules); accounts = rw p.1 (search rules); enough = sheets_enough }

pub returns : goal.returns
returns c =
    let closed = c.add_closing-closed in
    record {
      text = search rules;
      accounts = ends_well (vec_items closed.new.text) (vec_items c.add_input-worked.new.text) (desk_of c.add_input-worked.new.desk).0
          c.in_ok-closed.ensures.text closed.ensures.led closed.ensures.promise;
      enough = sheets_enough;
    }

use Rattle.std.proofs.Common.{sym, ◌∙◌, rules}
use Rattle.desk.proofs.Windows.{needed_stated, window_decides}
use Rattle.desk.proofs.wanted.Goals as goal

pub returns : goal.returns
returns c =
    let s = c.args.window.now in
    record { need = c.from.ensures ∙ c.from_le_bytes.ensures ∙ sym (needed_stated s (search rules)); decides = window_decides s }

-- The text of each answer.
use Rattle.std.specs.Prelude.{ℕ, List, ◌++◌, codes, decimal}
use Rattle.book.specs.Printed.{printed}
use Rattle.market.specs.declared.refusals.Refusal.{Refusal}
use Rattle.daycalls.specs.declared.replies.Reply.{Reply}
use Rattle.daycalls.specs.declared.replies.Reply.TheVariants.{Accepted, Declined, Number, Money, Absent, DayClosed, DayRuns, Unknown}

abbrev pub refusal_text : Refusal → List ℕ
refusal_text r = codes "E " ++ (decimal r.number ++ (codes " " ++ (decimal r.layer ++ (codes " " ++ decimal r.name))))

abbrev pub reply_text : Reply → List ℕ
reply_text Accepted = codes "ok"
reply_text (Declined r) = refusal_text r
reply_text (Number n) = decimal n
reply_text (Money m) = printed m
reply_text Absent = codes "absent"
reply_text DayClosed = codes "closed"
reply_text DayRuns = codes "running"
reply_text Unknown = codes "?"

use Rattle.std.proofs.Common.{arith, rules}
use Rattle.book.proofs.Promised as promised
use Rattle.book.proofs.whole_fen.Goals as goal

pub returns : goal.returns
returns c = record { value = search rules; exact = omega arith; promise = promised.promise }

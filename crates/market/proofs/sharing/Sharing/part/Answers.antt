use Rattle.std.proofs.Common.{rules}
use Rattle.market.proofs.Shares.{quotient_le}
use Rattle.market.proofs.sharing.Sharing.part.Goals as goal

pub overflow_cast-result : goal.overflow_cast-result
overflow_cast-result c =
    let s = c.args.self.now in
    let le = quotient_le s.quantity s.claims s.running s.enough (search rules) in
    search rules

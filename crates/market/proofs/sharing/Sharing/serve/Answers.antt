use Rattle.std.proofs.Common.{◌+◌, arith, rules}
use Rattle.market.proofs.Shares.{part_rises, share_le}
use Rattle.market.proofs.sharing.Sharing.serve.Goals as goal

pub overflow_sub-result : goal.overflow_sub-result
overflow_sub-result c =
    let up = part_rises c.args.self.now.quantity c.args.self.now.claims c.args.self.now.running (c.args.self.now.running + c.args.claim) (omega arith) in
    omega (arith, up, c.part.ensures, c.part-before.ensures)

pub returns : goal.returns
returns c =
    let s = c.args.self.now in
    let bound = share_le s.quantity s.claims s.running c.args.claim s.enough in
    record {
      share = omega (arith, c.part.ensures, c.part-before.ensures);
      bound = omega (arith, bound, c.part.ensures, c.part-before.ensures);
      after = search rules;
    }

use Rattle.clearing.proofs.NextBids.{next_bid_is}
use Rattle.clearing.proofs.bids.next_bid.Goals as goal

pub returns : goal.returns
returns c =
    let found = c.least_bid.ensures in
    next_bid_is c.args.entries.now found.grids c.args.from c.least_bid.result found.least

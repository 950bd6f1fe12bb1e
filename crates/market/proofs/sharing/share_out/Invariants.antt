use Rattle.std.proofs.Common.{◌≡◌, length, take, sum}
use Rattle.market.specs.Sharing.{shares_of}
use Rattle.market.proofs.sharing.share_out.Given as goal

abbrev pub invariant-loop-i : goal.invariant-loop-i
invariant-loop-i l =
    (length l.shares ≡ length l.claims)
    × (l.sharing.quantity ≡ l.quantity)
    × (l.sharing.claims ≡ sum l.claims)
    × (l.sharing.running ≡ sum (take l.i l.claims))
    × (take l.i l.shares ≡ take l.i (shares_of l.quantity l.claims))

use Rattle.std.proofs.Common.{get_or}
use Rattle.listings.specs.Listings.{share_text}
use Rattle.listings.proofs.Pages.{ListedOn}
use Rattle.listings.proofs.points.write_shares.Given as goal

-- The lines so far are added.
abbrev pub invariant-loop-grid : goal.invariant-loop-grid
invariant-loop-grid l = ListedOn l.initial.page (λ g. share_text g (get_or l.got g 0)) 44 l.grid l.page

use Rattle.std.proofs.Common.{get_or}
use Rattle.listings.specs.Listings.{award_text}
use Rattle.listings.proofs.Pages.{ListedOn}
use Rattle.listings.proofs.points.write_awards.Given as goal

-- The lines so far are added.
abbrev pub invariant-loop-place : goal.invariant-loop-place
invariant-loop-place l = ListedOn l.initial.page (λ p. award_text p (get_or l.awards p 0)) 18 l.place l.page

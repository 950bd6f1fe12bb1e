use Rattle.std.proofs.Common.{ℕ, ◌/◌, ◌%◌, [], ◌∷◌, get_or, arith}
use Rattle.lines.specs.Lines.{line_of}
use Rattle.listings.specs.Listings.{award_text}
use Rattle.listings.proofs.Texts.{award_long, above_long}
use Rattle.listings.proofs.Pages.{on_none, on_more, on_all}
use Rattle.listings.proofs.points.write_awards.Goals as goal

pub loop-place-init : goal.loop-place-init
loop-place-init c = on_none c.args.page.now (λ (p : ℕ). award_text p (get_or c.args.awards.now p 0)) 18

pub write_award-requires : goal.write_award-requires
write_award-requires c = record {
  place = omega (arith, c.loop-place-test.true);
  room = omega (arith, c.requires, c.loop-place.invariant.listed.few, c.loop-place.invariant.listed.long, c.loop-place-test.true);
}

pub loop-place-preserved : goal.loop-place-preserved
loop-place-preserved c =
    let i = c.loop-place.place in
    let a = get_or c.args.awards.now i 0 in
    on_more c.args.page.now (λ (p : ℕ). award_text p (get_or c.args.awards.now p 0)) 18 i c.loop-place.page c.write_award.new.page
    c.loop-place.invariant (above_long a 18 (line_of 65 (i / 4 ∷ i % 4 ∷ a ∷ [])) (award_long 65 i a (omega (arith, c.loop-place-test.true)) (omega (arith, c.fits-awards i))))
    (omega (arith, c.requires, c.loop-place.invariant.listed.few, c.loop-place-test.true)) c.write_award.ensures

pub returns : goal.returns
returns c =
    let all = on_all c.args.page.now (λ (p : ℕ). award_text p (get_or c.args.awards.now p 0)) 18 c.loop-place.place 256 c.loop-place.page c.loop-place.invariant (omega arith) in
    record { text = all.0; few = all.1 }

use Rattle.std.proofs.Common.{ℕ, [], ◌∷◌, get_or, arith}
use Rattle.lines.specs.Lines.{line_of}
use Rattle.listings.specs.Listings.{share_text}
use Rattle.listings.proofs.Texts.{two_long, above_long}
use Rattle.listings.proofs.Pages.{on_none, on_more, on_all}
use Rattle.listings.proofs.points.write_shares.Goals as goal

pub loop-grid-init : goal.loop-grid-init
loop-grid-init c = on_none c.args.page.now (λ (g : ℕ). share_text g (get_or c.args.got.now g 0)) 44

pub write_share-requires : goal.write_share-requires
write_share-requires c = omega (arith, c.requires, c.loop-grid.invariant.listed.few, c.loop-grid.invariant.listed.long, c.loop-grid-test.true)

pub loop-grid-preserved : goal.loop-grid-preserved
loop-grid-preserved c =
    let i = c.loop-grid.grid in
    let a = get_or c.args.got.now i 0 in
    on_more c.args.page.now (λ (g : ℕ). share_text g (get_or c.args.got.now g 0)) 44 i c.loop-grid.page c.write_share.new.page
    c.loop-grid.invariant (above_long a 44 (line_of 66 (i ∷ a ∷ [])) (two_long 66 i a))
    (omega (arith, c.requires, c.loop-grid.invariant.listed.few, c.loop-grid-test.true)) c.write_share.ensures

pub returns : goal.returns
returns c =
    let all = on_all c.args.page.now (λ (g : ℕ). share_text g (get_or c.args.got.now g 0)) 44 c.loop-grid.grid 16 c.loop-grid.page c.loop-grid.invariant (omega arith) in
    record { text = all.0; few = all.1 }

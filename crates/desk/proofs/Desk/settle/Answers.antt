use Rattle.std.proofs.Common.{length, ap, ◌∙◌}
use Rattle.day.specs.Day.{shown}
use Rattle.grids.specs.GridSets.{settings_of}
use Rattle.lines.specs.Lines.{written}
use Rattle.listings.specs.Listings.{point_listing}
use Rattle.loads.specs.Loads.{Desk}
use Rattle.desk.proofs.Points.{clear_leaves, settle_leaves}
use Rattle.desk.proofs.Desk.settle.Goals as goal

pub returns : goal.returns
returns c =
    let v = shown c.args.self.now.day in
    let t = settings_of c.args.self.now.screen in
    let x = shown c.clear.new.self in
    let y = shown c.post.new.self in
    let cleared = c.clear.ensures.day in
    let desk = clear_leaves v x t cleared.0 c.requires cleared.2 in
    let listing = c.write_listing-end.ensures in
    record {
      shows = settle_leaves v x y t (settings_of c.clear.new.screen) cleared.0 c.requires cleared.2 c.post.ensures.day c.clear.ensures.set.0;
      long = listing.long ∙ ap (λ (d : Desk). length (point_listing d.0)) desk;
      few = listing.few;
      bytes = listing.bytes ∙ ap (λ (d : Desk). written c.args.out.now 0 (point_listing d.0)) desk;
    }

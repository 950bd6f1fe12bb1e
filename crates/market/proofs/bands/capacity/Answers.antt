use Rattle.std.proofs.Common.{rules}
use Rattle.market.specs.Bands.{figures_of}
use Rattle.market.proofs.Capacities.{adds_up, adds_up_from_zero}
use Rattle.market.proofs.WorkedByHand.{worked_capacities}
use Rattle.market.proofs.bands.capacity.Goals as goal

pub returns-then-band-band_count : goal.returns-then-band-band_count
returns-then-band-band_count g c =
    let law = g.met.S.BandScheme.rising in
    record { value = search rules; sum = adds_up _ (figures_of c.args.figures.now) law (search rules); sum_from_zero = adds_up_from_zero _ (figures_of c.args.figures.now) law (search rules); worked = worked_capacities }

pub returns : goal.returns
returns g c =
    let law = g.met.S.BandScheme.rising in
    record { value = search rules; sum = adds_up _ (figures_of c.args.figures.now) law (search rules); sum_from_zero = adds_up_from_zero _ (figures_of c.args.figures.now) law (search rules); worked = worked_capacities }

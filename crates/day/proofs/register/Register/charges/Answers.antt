use Rattle.std.proofs.Common.{◌≡◌, sym, ◌∙◌, arith}
use Rattle.std.proofs.lemmas.List.{get_or-map}
use Rattle.day.proofs.register.Register.charges.Goals as goal

pub returns : goal.returns
returns c =
    let tariffs = c.args.self.now.tariffs in
    let grid = c.args.grid in
    let number : c.from.result ≡ grid.number = omega arith in (
      sym (get_or-map (λ t. t.fen) tariffs c.from.result c.index-self-from.result 0 (omega (arith, grid.ok))) ∙ rw number,
      sym (get_or-map (λ t. t.fen) tariffs 16 c.index-self-16.result 0 (omega arith)),
    )

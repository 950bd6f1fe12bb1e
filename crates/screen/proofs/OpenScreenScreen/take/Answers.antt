use Rattle.std.proofs.Common.{true, arith}
use Rattle.screen.specs.Rooms.{open_room, take_above, take_within}
use Rattle.screen.proofs.OpenScreenScreen.take.Goals as goal

pub returns-then-quantity-gt-MAX_FIGURE-clause-answer : goal.returns-then-quantity-gt-MAX_FIGURE-clause-answer
returns-then-quantity-gt-MAX_FIGURE-clause-answer c =
    take_above (λ _. true) c.args.place c.args.quantity (omega arith) (omega (arith, open_room c.args.place (omega arith)))

pub returns-clause-answer : goal.returns-clause-answer
returns-clause-answer c =
    take_within (λ _. true) c.args.place c.args.quantity (omega arith) (omega (arith, open_room c.args.place (omega arith)))

use Rattle.desk.specs.Texts.{new_desk}
use Rattle.desk.proofs.Desk.start.Goals as goal

pub returns : goal.returns
unfolding new_desk
returns c = λ i. (c.start.ensures i, c.new.ensures.set i)

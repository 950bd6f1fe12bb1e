use Rattle.shapes.proofs.LayeredScreen.take.Goals as goal

pub returns-in-CeilingOverCap-clause-answer : goal.returns-in-CeilingOverCap-clause-answer
returns-in-CeilingOverCap-clause-answer g c = rw c.in-CeilingOverCap.is c.take-in-CeilingOverCap.ensures.answer

pub returns-in-CapOverCeiling-clause-answer : goal.returns-in-CapOverCeiling-clause-answer
returns-in-CapOverCeiling-clause-answer g c = rw c.in-CapOverCeiling.is c.take-in-CapOverCeiling.ensures.answer

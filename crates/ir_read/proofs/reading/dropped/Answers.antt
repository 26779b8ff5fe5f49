use Rattle.ir_read.proofs.reading.dropped.Goals as goal

pub returns-in-Some : goal.returns-in-Some
returns-in-Some c = (c.requires, rw c.in-Some.is at c.in_ok-name.ensures)

pub returns-in-None : goal.returns-in-None
returns-in-None c = (c.requires, rw c.in-None.is at c.in_ok-name.ensures)

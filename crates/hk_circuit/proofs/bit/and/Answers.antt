use Rattle.hk_circuit.proofs.Frames.{framed}
use Rattle.hk_circuit.proofs.bit.and.Goals as goal

pub returns-clause-frame : goal.returns-clause-frame
returns-clause-frame c = let e = c.in_ok-both.ensures in framed e.vars e.keeps e.grows e.inputs

pub returns-in_err-both-clause-frame : goal.returns-in_err-both-clause-frame
returns-in_err-both-clause-frame c = let e = c.and.ensures in framed e.vars e.keeps e.grows e.inputs

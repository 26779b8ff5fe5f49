use Rattle.hk_copy.proofs.ListLaws.{pass-interned}
use Rattle.hk_inst.proofs.Widening.{at-longer, refutation-longer}
use Rattle.hk_inst.proofs.required.put.Goals as goal

pub returns-clause-keeps : goal.returns-clause-keeps
returns-clause-keeps c = at-longer c.args.terms.now c.intern-made.new.self c.intern-made.ensures.grows

pub returns-clause-refutes : goal.returns-clause-refutes
returns-clause-refutes c = λ b d bs ss h. refutation-longer c.args.terms.now c.intern-made.new.self c.intern-made.ensures.grows b h

pub returns-clause-adds : goal.returns-clause-adds
returns-clause-adds c = pass-interned c.args.terms.now c.intern-made.new.self c.args.node c.intern-made.result c.intern-made.ensures.ok c.intern-made.ensures.err

use Rattle.hk_copy.proofs.CopyLaws.{copies-grows}
use Rattle.hk_copy.proofs.ListLaws.{pass-interned}
use Rattle.hk_copy.proofs.variable.put.Goals as goal

pub returns-clause-keeps_copies : goal.returns-clause-keeps_copies
returns-clause-keeps_copies c = copies-grows c.args.terms.now c.intern-made.new.self c.intern-made.ensures.grows

pub returns-clause-adds : goal.returns-clause-adds
returns-clause-adds c = pass-interned c.args.terms.now c.intern-made.new.self c.args.node c.intern-made.result c.intern-made.ensures.ok c.intern-made.ensures.err

use Rattle.hk_inst_goals.proofs.NarrowLaws.{narrow-push}
use Rattle.hk_inst_goals.proofs.build.put.Goals as goal

pub returns-clause-narrow : goal.returns-clause-narrow
returns-clause-narrow c = narrow-push c.args.terms.now c.intern.new.self c.args.node c.in_ok-t.t c.requires.narrow c.in_ok-t.ensures.ok

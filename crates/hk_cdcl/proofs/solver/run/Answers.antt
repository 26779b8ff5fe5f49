use Rattle.std.proofs.Common.{refl}
use Rattle.hk_cdcl.proofs.Growing.{grows-with}
use Rattle.hk_cdcl.proofs.Segmenting.{ran-between}
use Rattle.hk_cdcl.proofs.solver.run.Goals as goal

pub returns-clause-grows : goal.returns-clause-grows
returns-clause-grows c = grows-with c.args.search.now c.run_through-found.new.search c.cut.new.self c.run_through-found.ensures.grows c.cut.ensures.clauses c.cut.ensures.log

pub returns-clause-ran : goal.returns-clause-ran
returns-clause-ran c = ran-between c.args.budget c.args.search.now c.args.search.now c.run_through-found.new.search c.cut.new.self c.run_through-found.result refl c.cut.ensures.clauses c.cut.ensures.log c.run_through-found.ensures.ran

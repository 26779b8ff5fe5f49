use Rattle.std.proofs.Common.{arith}
use Rattle.std.proofs.lemmas.Grind.{common_steps}
use Rattle.hk_cnf.proofs.Parts.{length-clauses}
use Rattle.hk_cnf.proofs.clauses.ClauseList.len.Goals as goal

pub returns-clause-value : goal.returns-clause-value
returns-clause-value c = grind (arith, common_steps, length-clauses c.self.inside c.args.self.now c.self.view_is)

use Rattle.hk_cdcl.proofs.Ending.{end-sat, end-unsat, end-sound, end-unsatisfiable, end-spent, end-count, end-earlier, end-decided}
use Rattle.hk_cdcl.proofs.solver.Solver.finish.Goals as goal

pub returns-clause-satisfies : goal.returns-clause-satisfies
returns-clause-satisfies c = end-sat c.args.self c.args.budget c.last_answer.result c.last_answer.ensures

pub returns-clause-refutes : goal.returns-clause-refutes
returns-clause-refutes c = end-unsat c.args.self c.args.budget c.last_answer.result c.last_answer.ensures

pub returns-clause-sound : goal.returns-clause-sound
returns-clause-sound c = end-sound c.args.self c.args.budget c.last_answer.result c.last_answer.ensures

pub returns-clause-unsatisfiable : goal.returns-clause-unsatisfiable
returns-clause-unsatisfiable c = end-unsatisfiable c.args.self c.args.budget c.last_answer.result c.last_answer.ensures

pub returns-clause-spent : goal.returns-clause-spent
returns-clause-spent c = end-spent c.args.self c.args.budget c.last_answer.result c.last_answer.ensures

pub returns-clause-count : goal.returns-clause-count
returns-clause-count c = end-count c.args.self c.args.budget c.last_answer.result c.last_answer.ensures

pub returns-clause-earlier : goal.returns-clause-earlier
returns-clause-earlier c = end-earlier c.args.self c.args.budget c.last_answer.result c.last_answer.ensures

pub returns-clause-decided : goal.returns-clause-decided
returns-clause-decided c = end-decided c.args.self c.args.budget c.last_answer.result c.last_answer.ensures

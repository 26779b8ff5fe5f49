use Rattle.hk_cdcl.proofs.Ending.{end-sat, end-unsat, end-sound, end-unsatisfiable, end-spent, end-count, end-earlier, end-decided}
use Rattle.hk_cdcl.proofs.solver.Solver.solve.Goals as goal

pub returns-clause-satisfies : goal.returns-clause-satisfies
returns-clause-satisfies c = end-sat c.args.self.now c.args.budget c.answer.result c.answer.ensures.ends

pub returns-clause-refutes : goal.returns-clause-refutes
returns-clause-refutes c = end-unsat c.args.self.now c.args.budget c.answer.result c.answer.ensures.ends

pub returns-clause-sound : goal.returns-clause-sound
returns-clause-sound c = end-sound c.args.self.now c.args.budget c.answer.result c.answer.ensures.ends

pub returns-clause-unsatisfiable : goal.returns-clause-unsatisfiable
returns-clause-unsatisfiable c = end-unsatisfiable c.args.self.now c.args.budget c.answer.result c.answer.ensures.ends

pub returns-clause-spent : goal.returns-clause-spent
returns-clause-spent c = end-spent c.args.self.now c.args.budget c.answer.result c.answer.ensures.ends

pub returns-clause-count : goal.returns-clause-count
returns-clause-count c = end-count c.args.self.now c.args.budget c.answer.result c.answer.ensures.ends

pub returns-clause-earlier : goal.returns-clause-earlier
returns-clause-earlier c = end-earlier c.args.self.now c.args.budget c.answer.result c.answer.ensures.ends

pub returns-clause-decided : goal.returns-clause-decided
returns-clause-decided c = end-decided c.args.self.now c.args.budget c.answer.result c.answer.ensures.ends

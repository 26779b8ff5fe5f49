use Rattle.hk_cnf.proofs.FrontLaws.{fronts-grown}
use Rattle.hk_solver_tests.proofs.gates.add_required.Goals as goal

pub returns-in_err-require : goal.returns-in_err-require
returns-in_err-require c = record { front = λ d h. c.require.ensures.front d (fronts-grown c.args.gates.now c.and.new.self c.and.ensures.grows d h) }

pub returns : goal.returns
returns c = record { front = λ d h. c.require.ensures.front d (fronts-grown c.args.gates.now c.and.new.self c.and.ensures.grows d h) }

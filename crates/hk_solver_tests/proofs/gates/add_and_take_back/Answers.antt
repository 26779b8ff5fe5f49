use Rattle.hk_cnf.specs.Front.{CanCut}
use Rattle.hk_cnf.proofs.FrontLaws.{IsFront-refl, can-cut-at}
use Rattle.hk_solver_tests.proofs.gates.add_and_take_back.Goals as goal
use Rattle.hk_solver_tests.proofs.gates.add_and_take_back.Goals.{After-cut-arg-1}

fits : (c : After-cut-arg-1) → CanCut c.sizes-sizes.result.vars c.sizes-sizes.result.clauses c.sizes-sizes.result.gates c.add_required-done.new.gates
fits c =
    can-cut-at c.args.gates.now c.add_required-done.new.gates c.sizes-sizes.result.vars c.sizes-sizes.result.clauses c.sizes-sizes.result.gates
    c.sizes-sizes.ensures.circuit c.sizes.ensures.circuit (c.add_required-done.ensures.front c.args.gates.now (IsFront-refl c.args.gates.now))
    c.sizes-sizes.ensures.vars c.sizes-sizes.ensures.clauses c.sizes-sizes.ensures.gates

pub cut-requires-clause-kept_clauses : goal.cut-requires-clause-kept_clauses
cut-requires-clause-kept_clauses c = (fits c).kept_clauses

pub cut-requires-clause-kept_gates : goal.cut-requires-clause-kept_gates
cut-requires-clause-kept_gates c = (fits c).kept_gates

pub cut-requires-clause-fresh_or_kept : goal.cut-requires-clause-fresh_or_kept
cut-requires-clause-fresh_or_kept c = (fits c).fresh_or_kept

use Rattle.hk_cnf.proofs.FrontLaws.{IsFront-refl, can-cut-at}
use Rattle.hk_settle_tests.proofs.blasted.blast_and_take_back.Goals as goal

pub cut-requires-2-clause-kept_clauses : goal.cut-requires-2-clause-kept_clauses
cut-requires-2-clause-kept_clauses c =
    (can-cut-at c.args.gates.now c.blast_negation-done.new.gates c.sizes-sizes.result.vars c.sizes-sizes.result.clauses c.sizes-sizes.result.gates
    c.sizes-sizes.ensures.circuit c.sizes.ensures.circuit (c.blast_negation-done.ensures.front c.args.gates.now (IsFront-refl c.args.gates.now))
    c.sizes-sizes.ensures.vars c.sizes-sizes.ensures.clauses c.sizes-sizes.ensures.gates).kept_clauses

pub cut-requires-2-clause-kept_gates : goal.cut-requires-2-clause-kept_gates
cut-requires-2-clause-kept_gates c =
    (can-cut-at c.args.gates.now c.blast_negation-done.new.gates c.sizes-sizes.result.vars c.sizes-sizes.result.clauses c.sizes-sizes.result.gates
    c.sizes-sizes.ensures.circuit c.sizes.ensures.circuit (c.blast_negation-done.ensures.front c.args.gates.now (IsFront-refl c.args.gates.now))
    c.sizes-sizes.ensures.vars c.sizes-sizes.ensures.clauses c.sizes-sizes.ensures.gates).kept_gates

pub cut-requires-2-clause-fresh_or_kept : goal.cut-requires-2-clause-fresh_or_kept
cut-requires-2-clause-fresh_or_kept c =
    (can-cut-at c.args.gates.now c.blast_negation-done.new.gates c.sizes-sizes.result.vars c.sizes-sizes.result.clauses c.sizes-sizes.result.gates
    c.sizes-sizes.ensures.circuit c.sizes.ensures.circuit (c.blast_negation-done.ensures.front c.args.gates.now (IsFront-refl c.args.gates.now))
    c.sizes-sizes.ensures.vars c.sizes-sizes.ensures.clauses c.sizes-sizes.ensures.gates).fresh_or_kept

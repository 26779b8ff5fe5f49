use Rattle.std.proofs.Common.{get_or, sym, ◌∙◌, subst}
use Rattle.std.specs.List.{All}
use Rattle.hk_cnf.specs.Literal.{place_of}
use Rattle.hk_cdcl.specs.Path.{clause_at}
use Rattle.hk_cdcl.specs.Analysis.{HasVariable, IsLowestOf}
use Rattle.hk_cdcl.proofs.Resolving.{lowest-marks, reason-set}
use Rattle.hk_cdcl.proofs.analyze.resolve_level.Goals as goal

pub lowest_of-least-requires-clause-set : goal.lowest_of-least-requires-clause-set
lowest_of-least-requires-clause-set c =
    subst (All (λ l. HasVariable c.args.trail.now.lits (place_of l))) (sym c.reason_of-reason.ensures.same)
    (reason-set c.args.clauses.now.clauses c.args.trail.now.lits c.args.place (get_or c.args.trail.now.reasons c.args.place 0) c.requires.reason c.requires.inside)

pub returns-clause-lowest : goal.returns-clause-lowest
returns-clause-lowest c =
    lowest-marks c.args.trail.now.lits c.args.level.below c.args.seen.now c.resolve.new.seen (clause_at c.args.clauses.now.clauses (get_or c.args.trail.now.reasons c.args.place 0)) c.args.level.lowest c.lowest_of-least.result c.requires.lowest
    (c.in_ok-resolve.ensures.marks (sym c.is_seen.ensures ∙ c.if-not-is_seen.false))
    (subst (λ k. IsLowestOf c.args.trail.now.lits c.args.level.below k c.args.level.lowest c.lowest_of-least.result) c.reason_of-reason.ensures.same c.lowest_of-least.ensures)

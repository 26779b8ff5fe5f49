use Rattle.std.proofs.Common.{[], get_or, sym, subst}
use Rattle.std.specs.List.{All}
use Rattle.hk_cnf.specs.Literal.{place_of}
use Rattle.hk_cdcl.specs.Analysis.{Marks, IsLowestOf, HasVariable, AreSeen}
use Rattle.hk_cdcl.proofs.Tracing.{conflict-set, lowest-conflict, traced}
use Rattle.hk_cdcl.proofs.Tracking.{tracked-none}
use Rattle.hk_cdcl.proofs.analyze.analyze.Goals as goal

pub lowest_of-lowest-requires-clause-set : goal.lowest_of-lowest-requires-clause-set
lowest_of-lowest-requires-clause-set c =
    subst (All (λ l. HasVariable c.args.trail.now.lits (place_of l))) (sym c.clause-clause.ensures.same)
    (conflict-set c.args.clauses.now.clauses c.args.trail.now.lits c.args.conflict c.requires.conflict)

pub first_uip-requires-clause-lowest : goal.first_uip-requires-clause-lowest
first_uip-requires-clause-lowest c =
    lowest-conflict c.args.clauses.now.clauses c.args.trail.now.lits c.args.below c.clear.new.self c.mark_all.new.seen c.args.conflict c.lowest_of-lowest.result
    c.requires.conflict c.requires.quiet c.requires.inside c.clear.ensures.cleared
    (subst (Marks c.clear.new.self c.mark_all.new.seen) c.clause-clause.ensures.same c.in_ok-mark_all.ensures.marks)
    (subst (λ n. IsLowestOf c.args.trail.now.lits c.args.below (get_or c.args.clauses.now.clauses c.args.conflict []) n c.lowest_of-lowest.result) c.len-len.ensures.value
    (subst (λ k. IsLowestOf c.args.trail.now.lits c.args.below k c.len-len.result c.lowest_of-lowest.result) c.clause-clause.ensures.same c.lowest_of-lowest.ensures))

pub returns-clause-traced : goal.returns-clause-traced
returns-clause-traced c =
    traced c.args.clauses.now.clauses c.args.trail.now c.mark_all.new.seen c.first_uip.new.seen c.args.below c.in_ok-uip.uip c.args.conflict
    (subst (AreSeen c.mark_all.new.seen) c.clause-clause.ensures.same c.in_ok-mark_all.ensures.marks.marked)
    c.in_ok-uip.ensures.lowest c.in_ok-uip.ensures.closed c.requires.level

pub returns-clause-lower : goal.returns-clause-lower
returns-clause-lower c =
    c.in_ok-uip.ensures.lower (c.in_ok-mark_all.ensures.lower (tracked-none c.args.trail.now.lits c.args.below c.clear.new.self c.args.lower.now.items c.clear.ensures.cleared c.requires.none))

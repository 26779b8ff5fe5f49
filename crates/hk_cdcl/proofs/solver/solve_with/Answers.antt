use Rattle.std.proofs.Common.{take, refl, subst}
use Rattle.hk_cdcl.specs.declared.search.Search.{Search}
use Rattle.hk_cdcl.specs.States.{Stepped, IsDecided, IsBack}
use Rattle.hk_cdcl.proofs.Growing.{grows-then, grows-with}
use Rattle.hk_cdcl.proofs.Running.{running-propagated, running-decided, running-back, grows-grown}
use Rattle.hk_cdcl.proofs.solver.solve_with.Goals as goal

pub respond-requires-clause-leveled : goal.respond-requires-clause-leveled
respond-requires-clause-leveled g c =
    running-propagated c.args.search.now (g.P.Propagate.fits c.steps.propagate) c.steps.search c.propagate-conflict.new.trail c.len-path.ensures.path c.steps.invariant c.propagate-conflict.ensures.extends

pub steps-preserved-in-Decided : goal.steps-preserved-in-Decided
steps-preserved-in-Decided g c =
    let old : Search = record c.steps.search { trail = c.propagate-conflict.new.trail } in
    let step : IsDecided old c.respond.new.self = subst (Stepped old c.respond.new.self) c.in-Decided.is c.in_ok-respond.ensures.stepped in
    running-decided c.args.search.now (g.P.Propagate.fits c.propagate-conflict.new.self) old c.respond.new.self (grows-with c.args.search.now c.steps.search old c.steps.invariant.grows refl refl) c.steps.invariant.spends c.propagate-conflict.ensures.seen step c.respond.ensures.grows c.respond.ensures.spends

pub steps-preserved : goal.steps-preserved
steps-preserved g c =
    let old : Search = record c.steps.search { trail = c.propagate-conflict.new.trail } in
    let step : IsBack old c.respond.new.self c.in-Back.length = subst (Stepped old c.respond.new.self) c.in-Back.is c.in_ok-respond.ensures.stepped in
    running-back c.args.search.now (g.P.Propagate.fits c.added-in-Back.new.self) old c.respond.new.self c.in-Back.length (grows-with c.args.search.now c.steps.search old c.steps.invariant.grows refl refl) c.steps.invariant.spends step c.respond.ensures.grows c.respond.ensures.spends
    (c.in_ok-added-in-Back.ensures.grown old.clauses.clauses (take c.in-Back.length old.trail.lits) (c.cut.ensures old.clauses.clauses old.trail.lits c.propagate-conflict.ensures.seen) (grows-grown old c.respond.new.self c.respond.ensures.grows))

pub returns-in_err-respond-clause-grows : goal.returns-in_err-respond-clause-grows
returns-in_err-respond-clause-grows g c =
    let old : Search = record c.steps.search { trail = c.propagate-conflict.new.trail } in
    grows-then c.args.search.now old c.respond.new.self (grows-with c.args.search.now c.steps.search old c.steps.invariant.grows refl refl) c.respond.ensures.grows

pub returns-in_err-added-in-Back-clause-grows : goal.returns-in_err-added-in-Back-clause-grows
returns-in_err-added-in-Back-clause-grows g c =
    let old : Search = record c.steps.search { trail = c.propagate-conflict.new.trail } in
    grows-then c.args.search.now old c.respond.new.self (grows-with c.args.search.now c.steps.search old c.steps.invariant.grows refl refl) c.respond.ensures.grows

pub returns-in-Ended-clause-grows : goal.returns-in-Ended-clause-grows
returns-in-Ended-clause-grows g c =
    let old : Search = record c.steps.search { trail = c.propagate-conflict.new.trail } in
    grows-then c.args.search.now old c.respond.new.self (grows-with c.args.search.now c.steps.search old c.steps.invariant.grows refl refl) c.respond.ensures.grows

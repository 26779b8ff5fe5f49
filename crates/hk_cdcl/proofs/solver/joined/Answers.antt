use Rattle.std.proofs.Common.{◌<◌, ◌++◌, ◌∷◌, [], length, ◌∙◌, ap, subst, arith, List, ℤ}
use Rattle.hk_cnf.specs.Clauses.{Clauses}
use Rattle.hk_cdcl.proofs.Growing.{joined-more}
use Rattle.hk_cdcl.proofs.solver.joined.Goals as goal

pub loop-i-preserved : goal.loop-i-preserved
loop-i-preserved c =
    let lt : c.loop-i.i < length c.args.own.now.clauses = subst (λ n. c.loop-i.i < n) c.len-i-end.ensures.value c.loop-i-test.true in
    let step : List (List ℤ) → Clauses = λ cs. record { vars = c.args.list.now.vars; clauses = cs } in
    c.in_ok-push.ensures.ok
    ∙ (ap (λ (j : Clauses). record j { clauses = j.clauses ++ c.clause.result.now ∷ [] }) c.loop-i.invariant
    ∙ ap step (joined-more c.args.list.now.clauses c.args.own.now.clauses c.args.from c.loop-i.i c.clause.result.now [] (omega arith) lt c.clause.ensures.same))

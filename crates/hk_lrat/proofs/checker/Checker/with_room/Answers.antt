use Rattle.std.proofs.Common.{◌+◌, ◌<◌, ◌∙◌, ap, subst}
use Rattle.hk_lrat.specs.Room.{with_clause}
use Rattle.hk_lrat.proofs.Accept.{start-more}
use Rattle.hk_lrat.proofs.checker.Checker.with_room.Goals as goal

pub loop-i-preserved : goal.loop-i-preserved
loop-i-preserved c =
    ap (λ x. x.state) c.push.ensures
    ∙ (ap (λ k. (with_clause k (c.loop-i.i + 1) c.clause-clause.result.now).state) c.in_ok-reserve.ensures.ok
    ∙ start-more c.loop-i.checker.state c.args.list.now.vars c.loop-i.i c.args.list.now.clauses c.clause-clause.result.now c.loop-i.invariant
    (subst (λ n. c.loop-i.i < n) c.len-i-end.ensures.value c.loop-i-test.true) c.clause-clause.ensures.same)

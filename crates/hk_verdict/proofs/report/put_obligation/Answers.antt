use Rattle.std.proofs.Common.{subst, sym, OnErr}
use Rattle.hk_io.specs.Shown.{ShowsPrefix}
use Rattle.hk_case.specs.declared.Obligation.{Obligation}
use Rattle.spec_tree.specs.View.{view_spec}
use Rattle.hk_verdict.specs.Report.{obligation_line}
use Rattle.hk_verdict.proofs.report.put_obligation.Goals as goal

pub returns-in-Invariant-clause-cut : goal.returns-in-Invariant-clause-cut
returns-in-Invariant-clause-cut g c =
    let result = c.put_invariant.result in
    let before = g.O.Sink.shown c.args.out.now in
    let after = g.O.Sink.shown c.put_invariant.new.out in
    let P : Obligation → Type 0 = λ o. OnErr result (ShowsPrefix before after (obligation_line c.args.word.now (view_spec c.args.spec.now) c.args.handler.now o)) in
    subst P (sym c.in-Invariant.is) c.put_invariant.ensures.cut

use Rattle.hk_io.proofs.Prefixes.{prefix_append}
use Rattle.ir_ast.specs.ProgramView.{view_module}
use Rattle.spec_tree.specs.View.{view_spec, view_transition}
use Rattle.hk_verdict.specs.Report.{rejection_line, case_text}
use Rattle.hk_rows.proofs.Adding.{on_err, err_behind}
use Rattle.hk_verdict.proofs.report.put_rejected.Goals as goal

pub returns-in_err-put_rejection-clause-cut : goal.returns-in_err-put_rejection-clause-cut
returns-in_err-put_rejection-clause-cut g c = on_err _ _ (prefix_append _ _ _ _ c.in_err-put_rejection.ensures.cut)

pub returns-clause-cut : goal.returns-clause-cut
returns-clause-cut g c =
    let shown = g.O.Sink.shown in
    err_behind c.put_case.result (shown c.args.out.now) (shown c.put_rejection.new.out) (shown c.put_case.new.out) (rejection_line (view_spec c.args.spec.now) (view_transition c.args.transition.now) c.args.obligation) (case_text (view_module c.args.kernel.now) (view_spec c.args.spec.now) c.args.case.now)
    c.in_ok-put_rejection.ensures.whole c.put_case.ensures.cut

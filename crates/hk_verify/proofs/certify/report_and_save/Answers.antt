use Rattle.ir_ast.specs.ProgramView.{view_module}
use Rattle.spec_tree.specs.View.{view_spec}
use Rattle.hk_verify.proofs.Certificates.{all_shown, whole_of}
use Rattle.hk_verify.proofs.certify.report_and_save.Goals as goal

pub save-requires-clause-shapes : goal.save-requires-clause-shapes
save-requires-clause-shapes g c =
    let whole = whole_of _ c.args.budget (view_module c.args.inputs.now.kernel) (view_spec c.args.inputs.now.spec) c.report-answer.result c.in-None.is c.report-answer.ensures.reports in
    all_shown c.args.budget (view_module c.args.inputs.now.kernel) c.layout-layout.result.now (view_spec c.args.inputs.now.spec) (view_spec c.args.inputs.now.spec).transitions _ c.layout-layout.ensures whole.right

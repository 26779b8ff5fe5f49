use Rattle.std.proofs.Common.{refl, ap, sym, ◌∙◌, subst}
use Rattle.ir_ast.specs.ProgramView.{view_module}
use Rattle.spec_tree.specs.View.{view_spec}
use Rattle.hk_verify.specs.Lines.{verdict_status}
use Rattle.hk_verify.specs.Verdicts.{AreKept}
use Rattle.hk_verify.proofs.Whole.{where_ok, whole_report}
use Rattle.hk_verify.proofs.verify.report.Goals as goal

pub returns-clause-reports : goal.returns-clause-reports
returns-clause-reports g c =
    whole_report _ c.args.budget (view_module c.args.inputs.now.kernel) (view_spec c.args.inputs.now.spec) c.args.init _ _ _ c.requires.opening
    (where_ok c.put_init.result _ (sym c.is_err.ensures.value ∙ c.if-is_err.false) c.put_init.ensures.whole)
    (where_ok c.decide_all-decided.result _ (sym c.is_err-2.ensures.value ∙ c.if-is_err-2.false) c.decide_all-decided.ensures.whole)
    (where_ok c.decide_all-decided.result _ (sym c.is_err-2.ensures.value ∙ c.if-is_err-2.false) c.decide_all-decided.ensures.still
    ∙ where_ok c.put_init.result _ (sym c.is_err.ensures.value ∙ c.if-is_err.false) c.put_init.ensures.still)
    refl c.from_vec.ensures (c.status_of.ensures ∙ ap (verdict_status c.args.init) c.deref.ensures.value)

pub returns-clause-kept : goal.returns-clause-kept
returns-clause-kept g c = λ on none.
    subst (AreKept (view_spec c.args.inputs.now.spec) (view_spec c.args.inputs.now.spec).transitions) (sym c.from_vec.ensures)
    (where_ok c.decide_all-decided.result _ (sym c.is_err-2.ensures.value ∙ c.if-is_err-2.false) c.decide_all-decided.ensures.kept on)

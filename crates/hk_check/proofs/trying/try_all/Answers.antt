use Rattle.ir_ast.specs.ProgramView.{view_module}
use Rattle.spec_tree.specs.View.{view_spec}
use Rattle.hk_check.proofs.Judgements.{violated_by}
use Rattle.hk_check.proofs.trying.try_all.Goals as goal

pub returns-in-Some : goal.returns-in-Some
returns-in-Some c = λ l t laid found.
    violated_by (view_module c.args.kernel.now) l.objects (view_spec c.args.spec.now) t c.args.o c.in_ok-case.field-0 c.in-Some.case c.in-Some.is (c.in_ok-case.ensures l t laid found)

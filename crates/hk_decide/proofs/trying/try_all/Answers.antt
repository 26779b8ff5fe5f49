use Rattle.std.proofs.Common.{subst}
use Rattle.ir_ast.specs.ProgramView.{view_module}
use Rattle.spec_tree.specs.View.{view_spec}
use Rattle.hk_exhaust.specs.Answers.{Finds}
use Rattle.hk_decide.proofs.trying.try_all.Goals as goal

pub returns-in-None : goal.returns-in-None
returns-in-None c = λ budget l t laid found.
    (subst (Finds (view_module c.args.kernel.now) l.objects (view_spec c.args.spec.now) t c.args.o) c.in-None.is (c.in_ok-case.ensures l t laid found), c.requires.small l t laid found)

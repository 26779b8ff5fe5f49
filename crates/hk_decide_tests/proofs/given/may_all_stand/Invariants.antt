use Rattle.std.proofs.Common.{◌≡◌, Some}
use Rattle.std.specs.Prelude.{slice_get}
use Rattle.ir_ast.specs.ProgramView.{view_module}
use Rattle.ir_layout.specs.Layouts.{LayoutView, IsLayoutOf}
use Rattle.spec_tree.specs.Plain.{Transition}
use Rattle.spec_tree.specs.View.{view_spec}
use Rattle.hk_decide_tests.proofs.Few.{AreFewBelow}
use Rattle.hk_decide_tests.proofs.given.may_all_stand.Given as goal

-- the proofs so far may stand for their obligations
abbrev pub invariant-each : goal.invariant-each
invariant-each l = (lay : LayoutView) (t : Transition) → IsLayoutOf (view_module l.kernel) lay → slice_get (view_spec l.spec).transitions l.h ≡ Some t
    → AreFewBelow lay.objects (view_spec l.spec) t l.owed l.given l.place

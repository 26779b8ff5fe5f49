use Rattle.std.proofs.Common.{◌≡◌, Some, take}
use Rattle.std.specs.Prelude.{slice_get}
use Rattle.ir_ast.specs.ProgramView.{view_module}
use Rattle.ir_layout.specs.Layouts.{LayoutView, IsLayoutOf}
use Rattle.hk_symmem.specs.Origins.{AreOriginsOf}
use Rattle.spec_tree.specs.Plain.{Transition}
use Rattle.spec_tree.specs.View.{view_spec}
use Rattle.hk_oblig.specs.Asking.{IsPrepared}
use Rattle.hk_decide.specs.SoFar.{Stands, IsKept}
use Rattle.hk_decide.proofs.verdicts.decide.Given as goal

-- how the obligations so far stand
abbrev pub invariant-each : goal.invariant-each
invariant-each l = record {
  stands : (lay : LayoutView) (t : Transition) → IsLayoutOf (view_module l.kernel) lay → slice_get (view_spec l.spec).transitions l.h ≡ Some t
      → Stands l.budget (view_module l.kernel) lay.objects (view_spec l.spec) t (take l.obligation-index l.obligation-items) l.standing;
  kept : IsKept l.keep l.obligation-index l.standing;
  prepared : (t : Transition) → slice_get (view_spec l.spec).transitions l.h ≡ Some t → IsPrepared (view_module l.kernel) (view_spec l.spec) t l.prepared;
  origins : (lay : LayoutView) → IsLayoutOf (view_module l.kernel) lay → AreOriginsOf lay.objects l.prepared.origins;
}

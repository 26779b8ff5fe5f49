use Rattle.std.proofs.Common.{◌≡◌, Some, take}
use Rattle.std.specs.Prelude.{slice_get}
use Rattle.ir_ast.specs.ProgramView.{view_module}
use Rattle.ir_layout.specs.Layouts.{LayoutView, IsLayoutOf}
use Rattle.hk_symmem.specs.Origins.{AreOriginsOf}
use Rattle.spec_tree.specs.Plain.{Transition}
use Rattle.spec_tree.specs.View.{view_spec}
use Rattle.hk_oblig.specs.Asking.{IsPrepared}
use Rattle.hk_check.specs.Told.{AreShown}
use Rattle.hk_check.proofs.checking.check.Given as goal

-- the proofs so far are those of the obligations so far
abbrev pub invariant-each : goal.invariant-each
invariant-each l = record {
  shown : (lay : LayoutView) (t : Transition) → IsLayoutOf (view_module l.kernel) lay → slice_get (view_spec l.spec).transitions l.h ≡ Some t
      → AreShown (view_module l.kernel) lay.objects (view_spec l.spec) t (take l.place l.owed) (take l.place l.given);
  prepared : (t : Transition) → slice_get (view_spec l.spec).transitions l.h ≡ Some t → IsPrepared (view_module l.kernel) (view_spec l.spec) t l.prepared;
  origins : (lay : LayoutView) → IsLayoutOf (view_module l.kernel) lay → AreOriginsOf lay.objects l.prepared.origins;
}

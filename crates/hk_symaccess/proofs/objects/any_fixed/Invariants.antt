use Rattle.std.proofs.Common.{◌≡◌, take}
use Rattle.hk_term.specs.Meaning.{Reading, value}
use Rattle.hk_symvalue.specs.Growth.{Extends}
use Rattle.hk_symvalue.specs.Meaning.{IsTruth, is_true}
use Rattle.hk_symaccess.specs.Accesses.{is_fixed}
use Rattle.hk_symaccess.proofs.objects.any_fixed.Given as goal

abbrev pub invariant-loop-object : goal.invariant-loop-object
invariant-loop-object l = record {
  frame : Extends l.fn.t l.t;
  truth : IsTruth l.t l.made;
  is : (v : Reading) → is_true l.t l.made v ≡ is_fixed (take l.object l.objects) (value l.fn.t l.fn.base v);
}

use Rattle.std.proofs.Common.{◌≡◌, take}
use Rattle.hk_term.specs.Meaning.{Reading, value}
use Rattle.hk_symvalue.specs.Growth.{Extends}
use Rattle.hk_symvalue.specs.Meaning.{IsWord}
use Rattle.hk_symaccess.specs.Accesses.{sizes_of, at_base}
use Rattle.hk_symaccess.proofs.objects.any_size.Given as goal

abbrev pub invariant-loop-object : goal.invariant-loop-object
invariant-loop-object l = record {
  frame : Extends l.fn.t l.t;
  word : IsWord l.t 64 l.made;
  is : (v : Reading) → value l.t l.made v ≡ at_base (take l.object (sizes_of l.layout.objects)) (value l.fn.t l.fn.base v);
}

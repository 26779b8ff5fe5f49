use Rattle.hk_symvalue.specs.Growth.{Extends}
use Rattle.spec_tree.specs.View.{view_spec}
use Rattle.spec_tree.specs.Meaning.{Memory, invariant_holds}
use Rattle.hk_symspec.specs.Standing.{IsKernelOver}
use Rattle.hk_oblig.specs.Under.{IsMemoryAt}
use Rattle.hk_oblig.proofs.Gathering.{Gathered, tells_named}
use Rattle.hk_oblig.proofs.truths.invariant_terms.Given as goal

abbrev pub invariant-each : goal.invariant-each
invariant-each g l = record {
  frame : Extends l.fn.t l.t;
  over : IsKernelOver (view_spec l.spec) l.t l.memory;
  gathered : Gathered l.t (λ v (m : Memory). IsMemoryAt l.fn.t l.memory v m) (tells_named (view_spec l.spec).invariants (λ m n. invariant_holds (view_spec l.spec) n m)) l.terms.items l.i;
}

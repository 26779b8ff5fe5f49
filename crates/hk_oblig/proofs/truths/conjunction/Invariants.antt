use Rattle.std.proofs.Common.{◌≡◌, take}
use Rattle.std.specs.List.{list_all}
use Rattle.hk_term.specs.Meaning.{Reading}
use Rattle.hk_symvalue.specs.Growth.{Extends}
use Rattle.hk_symvalue.specs.Meaning.{IsTruth, is_true}
use Rattle.hk_oblig.proofs.truths.conjunction.Given as goal

abbrev pub invariant-each : goal.invariant-each
invariant-each l = record {
  frame : Extends l.fn.t l.t;
  truth : IsTruth l.t l.all;
  so_far : (v : Reading) → is_true l.t l.all v ≡ list_all (λ k. is_true l.fn.t k v) (take l.term-index l.terms);
}

use Rattle.hk_symvalue.specs.Growth.{Extends}
use Rattle.spec_tree.specs.View.{view_spec}
use Rattle.spec_tree.specs.Meaning.{State, property_holds}
use Rattle.hk_symspec.specs.Standing.{IsStateOver}
use Rattle.hk_oblig.specs.Under.{IsStateAt}
use Rattle.hk_oblig.proofs.Gathering.{Gathered, tells_named}
use Rattle.hk_oblig.proofs.truths.property_terms.Given as goal

abbrev pub invariant-each : goal.invariant-each
invariant-each g l = record {
  frame : Extends l.fn.t l.t;
  over : IsStateOver (view_spec l.spec) l.t l.state;
  gathered : Gathered l.t (λ v (x : State). IsStateAt (view_spec l.spec) l.fn.t l.state v x) (tells_named (view_spec l.spec).properties (λ x n. property_holds (view_spec l.spec) n x)) l.terms.items l.p;
}

use Rattle.std.proofs.Common.{List, ℕ}
use Rattle.hk_symvalue.specs.Growth.{Extends}
use Rattle.spec_tree.specs.View.{view_spec}
use Rattle.hk_symspec.specs.Standing.{IsStateOver}
use Rattle.hk_oblig.specs.Under.{IsStateAt}
use Rattle.hk_oblig.proofs.Gathering.{Gathered, tells_fields}
use Rattle.hk_oblig.proofs.truths.agreement_terms.Given as goal

abbrev pub invariant-each : goal.invariant-each
invariant-each g l = record {
  frame : Extends l.fn.t l.t;
  first : IsStateOver (view_spec l.spec) l.t l.after;
  second : IsStateOver (view_spec l.spec) l.t l.wanted;
  gathered : Gathered l.t (λ v (p : List (List ℕ) × List (List ℕ)). IsStateAt (view_spec l.spec) l.fn.t l.after v p.0 × IsStateAt (view_spec l.spec) l.fn.t l.wanted v p.1) tells_fields l.terms.items l.field;
}

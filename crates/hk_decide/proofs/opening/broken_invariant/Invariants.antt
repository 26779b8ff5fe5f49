use Rattle.std.proofs.Common.{map}
use Rattle.std.specs.Prelude.{not}
use Rattle.spec_tree.specs.View.{view_spec, view_named}
use Rattle.spec_tree.specs.Meaning.{invariant_holds}
use Rattle.hk_decide.proofs.Firsts.{IsLeft}
use Rattle.hk_decide.proofs.opening.broken_invariant.Given as goal

abbrev pub invariant-each : goal.invariant-each
invariant-each l = IsLeft (λ i. not (invariant_holds (view_spec l.spec) i l.memory)) (map view_named l.spec.invariants) l.i

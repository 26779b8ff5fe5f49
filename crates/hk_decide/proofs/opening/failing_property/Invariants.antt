use Rattle.std.proofs.Common.{map}
use Rattle.std.specs.Prelude.{not}
use Rattle.spec_tree.specs.View.{view_spec, view_named}
use Rattle.spec_tree.specs.Meaning.{property_holds}
use Rattle.hk_decide.proofs.Firsts.{IsLeft}
use Rattle.hk_decide.proofs.opening.failing_property.Given as goal

abbrev pub invariant-each : goal.invariant-each
invariant-each l = IsLeft (λ p. not (property_holds (view_spec l.spec) p l.state)) (map view_named l.spec.properties) l.p

use Rattle.std.proofs.Common.{◌≡◌, drop, map}
use Rattle.std.specs.List.{list_all}
use Rattle.spec_tree.specs.View.{view_spec, view_named}
use Rattle.spec_tree.specs.Meaning as meaning
use Rattle.spec_state.proofs.truths.properties_hold.Given as goal

-- what is left holds as the whole does
abbrev pub invariant-each : goal.invariant-each
invariant-each l =
    list_all (λ i. meaning.property_holds (view_spec l.spec) i l.state) (map view_named (drop l.named-index l.spec.properties))
    ≡ list_all (λ i. meaning.property_holds (view_spec l.spec) i l.state) (map view_named l.spec.properties)

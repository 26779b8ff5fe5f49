use Rattle.std.proofs.Common.{◌≡◌, drop, ◌&&◌, ◌||◌}
use Rattle.std.specs.Prelude.{not}
use Rattle.std.specs.List.{list_any}
use Rattle.spec_scope.specs.Scope.{meaning, bound_behind}
use Rattle.spec_scope.specs.Tests.{is_variable, are_new}
use Rattle.spec_scope.specs.View.{view_scope}
use Rattle.spec_take.specs.Found.{told_tuples}
use Rattle.spec_take.proofs.faults.enter.Given as goal

abbrev pub invariant-each : goal.invariant-each
invariant-each l = record {
  behind : bound_behind l.bound (drop l.name-index l.names) ≡ bound_behind l.initial.bound l.names;
  tuples : l.tuples ≡ told_tuples (view_scope l.scope) l.bound;
  new : (l.fresh && are_new l.bound (drop l.name-index l.names)) ≡ are_new l.initial.bound l.names;
  unknown : (l.unknown || list_any (λ x. not (is_variable (meaning (view_scope l.scope) x))) (drop l.name-index l.names)) ≡ list_any (λ x. not (is_variable (meaning (view_scope l.scope) x))) l.names;
}

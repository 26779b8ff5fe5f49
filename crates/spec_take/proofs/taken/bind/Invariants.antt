use Rattle.std.proofs.Common.{◌≡◌, ◌++◌, drop}
use Rattle.spec_scope.specs.Taking.{sizes_of}
use Rattle.spec_scope.specs.View.{view_scope}
use Rattle.spec_take.specs.Behind.{sizes_behind}
use Rattle.spec_take.proofs.taken.bind.Given as goal

abbrev pub invariant-each : goal.invariant-each
invariant-each l = record {
  after : l.bound ++ drop l.name-index l.names ≡ l.initial.bound ++ l.names;
  left : sizes_behind (view_scope l.scope) l.bound l.sizes.items (drop l.name-index l.names) ≡ sizes_of (view_scope l.scope) l.initial.bound l.names;
}

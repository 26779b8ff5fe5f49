use Rattle.std.proofs.Common.{◌≡◌, drop}
use Rattle.spec_ast.specs.View.{view_steps, view_step_list}
use Rattle.spec_kernel.specs.Seen.{shape_in, IsKnown}
use Rattle.spec_scope.specs.Scope.{leaf_at}
use Rattle.spec_take.proofs.paths.leaf_from.Given as goal

abbrev pub invariant-each : goal.invariant-each
invariant-each l = record {
  known : IsKnown l.kernel l.at;
  left : leaf_at (view_steps (drop l.step-index l.items)) (shape_in l.kernel l.at) ≡ leaf_at (view_step_list l.steps) (shape_in l.kernel l.shape);
}

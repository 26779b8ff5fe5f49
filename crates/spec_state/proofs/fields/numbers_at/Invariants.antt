use Rattle.std.proofs.Common.{◌≡◌, ◌++◌, drop, map}
use Rattle.spec_tree.specs.Sorted.{with_bounds}
use Rattle.spec_tree.specs.Value.{value, binding, tuples}
use Rattle.spec_tree.specs.View.{view_expr}
use Rattle.spec_number.specs.Evaluation.{context_of, env_of}
use Rattle.spec_state.proofs.fields.numbers_at.Given as goal

abbrev pub invariant-each : goal.invariant-each
invariant-each l = record {
  kept : l.frame ≡ l.initial.frame;
  numbers : l.numbers.items ++ map (λ t. value (with_bounds (context_of l.reading l.initial.frame) l.sizes) (binding (env_of l.reading l.initial.frame) t) (view_expr l.e)) (drop l.k (tuples l.sizes))
      ≡ map (λ t. value (with_bounds (context_of l.reading l.initial.frame) l.sizes) (binding (env_of l.reading l.initial.frame) t) (view_expr l.e)) (tuples l.sizes);
}

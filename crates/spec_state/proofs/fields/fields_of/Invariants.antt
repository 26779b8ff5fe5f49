use Rattle.std.proofs.Common.{◌≡◌, ◌++◌, drop, map}
use Rattle.spec_tree.specs.Sorted.{with_bounds, key_sizes}
use Rattle.spec_tree.specs.Value.{value, binding, tuples}
use Rattle.spec_tree.specs.View.{view_field}
use Rattle.spec_number.specs.Evaluation.{context_of, env_of}
use Rattle.spec_state.proofs.fields.fields_of.Given as goal

abbrev pub invariant-each : goal.invariant-each
invariant-each l = record {
  kept : l.frame ≡ l.initial.frame;
  fields : l.state.items ++ map (λ f. map (λ t. value (with_bounds (context_of l.reading l.initial.frame) (key_sizes f.keys)) (binding (env_of l.reading l.initial.frame) t) f.value) (tuples (key_sizes f.keys))) (map view_field (drop l.field-index l.fields))
      ≡ map (λ f. map (λ t. value (with_bounds (context_of l.reading l.initial.frame) (key_sizes f.keys)) (binding (env_of l.reading l.initial.frame) t) f.value) (tuples (key_sizes f.keys))) (map view_field l.fields);
}

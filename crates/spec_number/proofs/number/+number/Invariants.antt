use Rattle.std.proofs.Common.{◌≡◌, ◌+◌, ◌*◌, ◌<◌, ◌≤◌, ◌^◌, ◌%◌, drop, map, option_map}
use Rattle.std.specs.List.{list_all, list_any}
use Rattle.spec_tree.specs.View.{view_expr, view_exprs, view_expr_list, view_steps, view_step_list, view_key}
use Rattle.spec_tree.specs.Sorted.{AreTruths, AreIndices, AreSteps, product, key_sizes, with_bounds}
use Rattle.spec_tree.specs.Value.{value, values, holds, place_behind, bytes_added, binding, tuples}
use Rattle.spec_number.specs.Evaluation.{context_of, env_of}
use Rattle.spec_number.proofs.number.+number.Given as goal

abbrev pub decreases-number_of : goal.decreases-number_of
decreases-number_of l = 4 * goal.size-number_of l + 1

abbrev pub decreases-read : goal.decreases-read
decreases-read l = 4 * goal.size-read l

abbrev pub decreases-place_of : goal.decreases-place_of
decreases-place_of l = 4 * goal.size-place_of l

abbrev pub decreases-entry_of : goal.decreases-entry_of
decreases-entry_of l = 4 * goal.size-entry_of l + 1

abbrev pub decreases-added_by : goal.decreases-added_by
decreases-added_by l = 4 * goal.size-added_by l

abbrev pub decreases-all_hold : goal.decreases-all_hold
decreases-all_hold l = 4 * goal.size-all_hold l

abbrev pub decreases-some_hold : goal.decreases-some_hold
decreases-some_hold l = 4 * goal.size-some_hold l

abbrev pub decreases-holds_at : goal.decreases-holds_at
decreases-holds_at l = 4 * goal.size-holds_at l + 2

abbrev pub decreases-for_all_hold : goal.decreases-for_all_hold
decreases-for_all_hold l = 4 * goal.size-for_all_hold l + 3

abbrev pub decreases-for_some_hold : goal.decreases-for_some_hold
decreases-for_some_hold l = 4 * goal.size-for_some_hold l + 3

abbrev pub invariant-added_by-each : goal.invariant-added_by-each
invariant-added_by-each l = record {
  kept : l.frame ≡ l.initial.frame;
  fits : l.added < 2 ^ 64;
  sorted : AreSteps (context_of l.reading l.initial.frame) (view_steps (drop l.step-index l.items));
  rest : option_map (λ n. (l.added + n) % 2 ^ 64) (bytes_added (context_of l.reading l.initial.frame) (env_of l.reading l.initial.frame) (view_steps (drop l.step-index l.items)))
      ≡ option_map (λ n. n % 2 ^ 64) (bytes_added (context_of l.reading l.initial.frame) (env_of l.reading l.initial.frame) (view_step_list l.steps));
}

abbrev pub invariant-all_hold-each : goal.invariant-all_hold-each
invariant-all_hold-each l = record {
  kept : l.frame ≡ l.initial.frame;
  sorted : AreTruths (context_of l.reading l.initial.frame) (view_exprs (drop l.e-index l.items));
  rest : list_all holds (values (context_of l.reading l.initial.frame) (env_of l.reading l.initial.frame) (view_exprs (drop l.e-index l.items)))
      ≡ list_all holds (values (context_of l.reading l.initial.frame) (env_of l.reading l.initial.frame) (view_expr_list l.es));
}

abbrev pub invariant-some_hold-each : goal.invariant-some_hold-each
invariant-some_hold-each l = record {
  kept : l.frame ≡ l.initial.frame;
  sorted : AreTruths (context_of l.reading l.initial.frame) (view_exprs (drop l.e-index l.items));
  rest : list_any holds (values (context_of l.reading l.initial.frame) (env_of l.reading l.initial.frame) (view_exprs (drop l.e-index l.items)))
      ≡ list_any holds (values (context_of l.reading l.initial.frame) (env_of l.reading l.initial.frame) (view_expr_list l.es));
}

abbrev pub invariant-for_all_hold-each : goal.invariant-for_all_hold-each
invariant-for_all_hold-each l = record {
  kept : l.frame ≡ l.initial.frame;
  rest : list_all (λ t. holds (value (with_bounds (context_of l.reading l.initial.frame) l.sizes) (binding (env_of l.reading l.initial.frame) t) (view_expr l.e))) (drop l.k (tuples l.sizes))
      ≡ list_all (λ t. holds (value (with_bounds (context_of l.reading l.initial.frame) l.sizes) (binding (env_of l.reading l.initial.frame) t) (view_expr l.e))) (tuples l.sizes);
}

abbrev pub invariant-for_some_hold-each : goal.invariant-for_some_hold-each
invariant-for_some_hold-each l = record {
  kept : l.frame ≡ l.initial.frame;
  rest : list_any (λ t. holds (value (with_bounds (context_of l.reading l.initial.frame) l.sizes) (binding (env_of l.reading l.initial.frame) t) (view_expr l.e))) (drop l.k (tuples l.sizes))
      ≡ list_any (λ t. holds (value (with_bounds (context_of l.reading l.initial.frame) l.sizes) (binding (env_of l.reading l.initial.frame) t) (view_expr l.e))) (tuples l.sizes);
}

abbrev pub invariant-place_of-each : goal.invariant-place_of-each
invariant-place_of-each l = record {
  kept : l.frame ≡ l.initial.frame;
  sorted : AreIndices (context_of l.reading l.initial.frame) (drop l.k (map view_key l.keys)) (view_exprs (drop l.k l.items));
  few : (l.place + 1) * product (key_sizes (drop l.k (map view_key l.keys))) ≤ 2 ^ 20;
  rest : place_behind l.place (drop l.k (map view_key l.keys)) (values (context_of l.reading l.initial.frame) (env_of l.reading l.initial.frame) (view_exprs (drop l.k l.items)))
      ≡ place_behind 0 (map view_key l.keys) (values (context_of l.reading l.initial.frame) (env_of l.reading l.initial.frame) (view_expr_list l.at));
}

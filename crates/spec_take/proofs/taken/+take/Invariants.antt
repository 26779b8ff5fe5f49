use Rattle.std.proofs.Common.{◌≡◌, ◌+◌, ◌*◌, drop, map}
use Rattle.spec_ast.specs.View.{view_exprs, view_expr_list, view_steps, view_step_list}
use Rattle.spec_tree.specs.View.{view_expr, view_step, view_key}
use Rattle.spec_kernel.specs.Seen.{shape_in, IsKnown}
use Rattle.spec_scope.specs.Taking.{take_truths, take_keys, lead}
use Rattle.spec_scope.specs.View.{view_scope}
use Rattle.spec_take.specs.Behind.{truths_behind, keys_behind, lead_behind}
use Rattle.spec_take.proofs.taken.+take.Given as goal

abbrev pub decreases-take : goal.decreases-take
decreases-take l = 4 * goal.size-take l

abbrev pub decreases-unary_at : goal.decreases-unary_at
decreases-unary_at l = 4 * goal.size-unary_at l + 1

abbrev pub decreases-resize_at : goal.decreases-resize_at
decreases-resize_at l = 4 * goal.size-resize_at l + 1

abbrev pub decreases-truths : goal.decreases-truths
decreases-truths l = 4 * goal.size-truths l

abbrev pub decreases-all_at : goal.decreases-all_at
decreases-all_at l = 4 * goal.size-all_at l + 1

abbrev pub decreases-any_at : goal.decreases-any_at
decreases-any_at l = 4 * goal.size-any_at l + 1

abbrev pub decreases-indices : goal.decreases-indices
decreases-indices l = 4 * goal.size-indices l

abbrev pub decreases-entry_at : goal.decreases-entry_at
decreases-entry_at l = 4 * goal.size-entry_at l + 1

abbrev pub decreases-element_at : goal.decreases-element_at
decreases-element_at l = 4 * goal.size-element_at l + 1

abbrev pub decreases-lead : goal.decreases-lead
decreases-lead l = 4 * goal.size-lead l

abbrev pub decreases-path_at : goal.decreases-path_at
decreases-path_at l = 4 * goal.size-path_at l + 1

abbrev pub decreases-quantified : goal.decreases-quantified
decreases-quantified l = 4 * goal.size-quantified l + 1

abbrev pub decreases-for_all_at : goal.decreases-for_all_at
decreases-for_all_at l = 4 * goal.size-for_all_at l + 2

abbrev pub decreases-exists_at : goal.decreases-exists_at
decreases-exists_at l = 4 * goal.size-exists_at l + 2

abbrev pub invariant-truths-each : goal.invariant-truths-each
invariant-truths-each l = record {
  kept : l.bound ≡ l.initial.bound;
  left : truths_behind (view_scope l.scope) l.initial.bound (map view_expr l.taken.items) (view_exprs (drop l.e-index l.items)) ≡ take_truths (view_scope l.scope) l.initial.bound (view_expr_list l.es);
}

abbrev pub invariant-indices-each : goal.invariant-indices-each
invariant-indices-each l = record {
  kept : l.bound ≡ l.initial.bound;
  left : keys_behind (view_scope l.scope) l.initial.bound (map view_key l.left) (map view_expr l.taken.items) (view_exprs (drop l.e-index l.items))
      ≡ take_keys (view_scope l.scope) l.initial.bound (map view_key l.keys) (view_expr_list l.es);
}

abbrev pub invariant-lead-each : goal.invariant-lead-each
invariant-lead-each l = record {
  kept : l.bound ≡ l.initial.bound;
  known : IsKnown l.scope.kernel.now l.at;
  left : lead_behind (view_scope l.scope) l.initial.bound l.base (map view_step l.taken.items) (view_steps (drop l.step-index l.items)) (shape_in l.scope.kernel.now l.at)
      ≡ lead (view_scope l.scope) l.initial.bound (view_step_list l.steps) (shape_in l.scope.kernel.now l.shape);
}

use Rattle.std.proofs.Common.{◌≡◌, ◌+◌, ◌*◌, drop}
use Rattle.spec_ast.specs.View.{view_exprs, view_expr_list, view_steps, view_step_list}
use Rattle.spec_scope.specs.View.{view_scope}
use Rattle.spec_take.specs.Found.{view_findings, either, findings_among, findings_in}
use Rattle.spec_take.proofs.faults.+faults.Given as goal

abbrev pub decreases-faults_of : goal.decreases-faults_of
decreases-faults_of l = 2 * goal.size-faults_of l

abbrev pub decreases-among : goal.decreases-among
decreases-among l = 2 * goal.size-among l

abbrev pub decreases-in_step : goal.decreases-in_step
decreases-in_step l = 2 * goal.size-in_step l

abbrev pub decreases-in_steps : goal.decreases-in_steps
decreases-in_steps l = 2 * goal.size-in_steps l

abbrev pub decreases-in_quantifier : goal.decreases-in_quantifier
decreases-in_quantifier l = 2 * goal.size-in_quantifier l + 1

abbrev pub invariant-among-each : goal.invariant-among-each
invariant-among-each l = record {
  kept : l.bound ≡ l.initial.bound;
  left : either (view_findings l.found) (findings_among (view_scope l.scope) l.initial.bound (view_exprs (drop l.e-index l.items))) ≡ findings_among (view_scope l.scope) l.initial.bound (view_expr_list l.es);
}

abbrev pub invariant-in_steps-each : goal.invariant-in_steps-each
invariant-in_steps-each l = record {
  kept : l.bound ≡ l.initial.bound;
  left : either (view_findings l.found) (findings_in (view_scope l.scope) l.initial.bound (view_steps (drop l.step-index l.items))) ≡ findings_in (view_scope l.scope) l.initial.bound (view_step_list l.steps);
}

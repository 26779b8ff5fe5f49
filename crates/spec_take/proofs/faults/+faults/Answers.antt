use Rattle.std.proofs.Common.{◌∙◌}
use Rattle.spec_ast.specs.View.{view_expr_list, view_step_list}
use Rattle.spec_scope.specs.View.{view_scope}
use Rattle.spec_take.specs.Found.{view_findings, findings_among, findings_in}
use Rattle.spec_take.proofs.Tuples.{among_next, steps_next}
use Rattle.spec_take.proofs.faults.+faults.Goals as goal

pub among-each-preserved : goal.among-each-preserved
among-each-preserved t c =
    let s = view_scope c.args.scope.now in
    let b = c.args.bound.now in
    record {
      kept = c.in_ok-here.ensures.kept ∙ c.each.invariant.kept;
      left =
          among_next s b c.each.bound c.as_slice-items.result.now c.each.e-index c.e-item.result (view_findings c.each.found) (view_findings c.in_ok-here.here)
          (view_findings c.either-found.result) (findings_among s b (view_expr_list c.args.es.now)) c.e-item.is c.each-test.true c.each.invariant.kept c.in_ok-here.ensures.found
          c.either-found.ensures c.each.invariant.left;
    }

pub in_steps-each-preserved : goal.in_steps-each-preserved
in_steps-each-preserved t c =
    let s = view_scope c.args.scope.now in
    let b = c.args.bound.now in
    record {
      kept = c.in_ok-here.ensures.kept ∙ c.each.invariant.kept;
      left =
          steps_next s b c.each.bound c.as_slice-items.result.now c.each.step-index c.step-item.result (view_findings c.each.found) (view_findings c.in_ok-here.here)
          (view_findings c.either-found.result) (findings_in s b (view_step_list c.args.steps.now)) c.step-item.is c.each-test.true c.each.invariant.kept c.in_ok-here.ensures.found
          c.either-found.ensures c.each.invariant.left;
    }

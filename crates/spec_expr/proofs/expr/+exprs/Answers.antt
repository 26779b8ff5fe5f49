use Rattle.std.proofs.Common.{◌≡◌, ◌+◌, Some, length, map, true, false, sym, ap, ◌∙◌, rules}
use Rattle.std.proofs.lemmas.Result.{err_from_is_err_and}
use Rattle.spec_ast.specs.Raw.{no_trees, tree_and, no_steps, step_and}
use Rattle.spec_ast.specs.View.{view_expr, view_step, trees_of, steps_of}
use Rattle.spec_expr.specs.Grown.{bounded, built}
use Rattle.spec_expr.specs.Reading.{arguments_at, grown_and, expr_at, level_at, unary_at}
use Rattle.spec_expr.specs.Fronts.{grown, seen}
use Rattle.spec_expr.specs.Many.{listed}
use Rattle.spec_expr.specs.Operators as operators
use Rattle.spec_expr.specs.PathSteps as path_steps
use Rattle.spec_expr.proofs.Lists.{arguments_listed, list_end, list_next, list_out, comma_fails, item_fails}
use Rattle.spec_expr.proofs.Operands.{chain_end, chain_next, chain_fails, chain_out, signs_spelled, signs_fail}
use Rattle.spec_expr.proofs.Paths.{grown_onto, grown_done, one_more, onto_trees, onto_steps, steps_begin, steps_end, steps_next, steps_fails, steps_out}
use Rattle.spec_expr.proofs.Lists.{fails_by}
use Rattle.spec_expr.proofs.expr.+exprs.Goals as goal

-- ---- expressions with a comma between them

pub arguments_at-returns-in-Some : goal.arguments_at-returns-in-Some
arguments_at-returns-in-Some t c =
    let inner = expr_at 100 c.args.nest in
    arguments_listed 100 inner c.args.close.now (seen c.args.tokens.now)
    ∙ list_end c.args.close.now inner (grown_and 100) (bounded 100 no_trees 0) (length c.in_ok-first.rest.now) c.more.counter (grown_onto 100 tree_and (grown (λ v. map view_expr v.items) c.more.list)) (seen c.more.rest.now)
    (listed c.args.close.now inner (grown_and 100) (bounded 100 no_trees 0) (seen c.args.tokens.now)) (seen c.in-Some.after.now) c.more-test.true c.more.invariant.value (sym c.in-Some.ensures)
    ∙ ap (λ es. Some (es, seen c.in-Some.after.now)) (grown_done 100 tree_and no_trees trees_of (λ v. map view_expr v.items) c.more.list onto_trees c.more.invariant.fits)

pub arguments_at-returns-in_err-after_comma : goal.arguments_at-returns-in_err-after_comma
arguments_at-returns-in_err-after_comma t c =
    let inner = expr_at 100 c.args.nest in
    let p = err_from_is_err_and c.from_residual-in_err-after_comma.result c.from_residual-in_err-after_comma.ensures.1 in
    rw (p.1, p.2)
    (fails_by c.in_err-after_comma.field-0.0 (arguments_at 100 inner c.args.close.now (seen c.args.tokens.now)) (listed c.args.close.now inner (grown_and 100) (bounded 100 no_trees 0) (seen c.args.tokens.now))
    (arguments_listed 100 inner c.args.close.now (seen c.args.tokens.now))
    (comma_fails c.args.close.now inner (grown_and 100) (bounded 100 no_trees 0) (length c.in_ok-first.rest.now) c.more.counter (grown_onto 100 tree_and (grown (λ v. map view_expr v.items) c.more.list)) (seen c.more.rest.now)
    (listed c.args.close.now inner (grown_and 100) (bounded 100 no_trees 0) (seen c.args.tokens.now)) c.in_err-after_comma.field-0.0 c.more-test.true c.more.invariant.value (sym c.in_default.ensures) c.in_err-after_comma.ensures))

pub arguments_at-returns-in_err-tree : goal.arguments_at-returns-in_err-tree
arguments_at-returns-in_err-tree t c =
    let inner = expr_at 100 c.args.nest in
    let p = err_from_is_err_and c.from_residual-in_err-tree.result c.from_residual-in_err-tree.ensures.1 in
    rw (p.1, p.2)
    (fails_by c.in_err-tree.field-0.0 (arguments_at 100 inner c.args.close.now (seen c.args.tokens.now)) (listed c.args.close.now inner (grown_and 100) (bounded 100 no_trees 0) (seen c.args.tokens.now))
    (arguments_listed 100 inner c.args.close.now (seen c.args.tokens.now))
    (item_fails c.args.close.now inner (grown_and 100) (bounded 100 no_trees 0) (length c.in_ok-first.rest.now) c.more.counter (grown_onto 100 tree_and (grown (λ v. map view_expr v.items) c.more.list)) (seen c.more.rest.now)
    (listed c.args.close.now inner (grown_and 100) (bounded 100 no_trees 0) (seen c.args.tokens.now)) (seen c.in_ok-after_comma.after_comma.now) c.in_err-tree.field-0.0 c.more-test.true c.more.invariant.value
    (sym c.in_default.ensures) c.in_ok-after_comma.ensures c.in_err-tree.ensures))

pub arguments_at-more-preserved : goal.arguments_at-more-preserved
arguments_at-more-preserved t c = record {
  value =
      list_next c.args.close.now (expr_at 100 c.args.nest) (grown_and 100) (bounded 100 no_trees 0) (length c.in_ok-first.rest.now) c.more.counter
      (grown_onto 100 tree_and (grown (λ v. map view_expr v.items) c.more.list)) (grown_onto 100 tree_and (grown (λ v. map view_expr v.items) c.in_ok-list-2.list)) (seen c.more.rest.now)
      (listed c.args.close.now (expr_at 100 c.args.nest) (grown_and 100) (bounded 100 no_trees 0) (seen c.args.tokens.now)) (seen c.in_ok-after_comma.after_comma.now) (grown view_expr c.in_ok-tree.tree)
      (seen c.in_ok-tree.after.now) c.more-test.true c.more.invariant.value (sym c.in_default.ensures) c.in_ok-after_comma.ensures c.in_ok-tree.ensures
      (one_more 100 tree_and (grown (λ v. map view_expr v.items) c.more.list) (grown (λ v. map view_expr v.items) c.in_ok-list-2.list) (grown view_expr c.in_ok-tree.tree) c.in_ok-list-2.ensures.value);
  fits = c.in_ok-list-2.ensures.fits;
}

pub arguments_at-returns : goal.arguments_at-returns
arguments_at-returns t c =
    let inner = expr_at 100 c.args.nest in
    arguments_listed 100 inner c.args.close.now (seen c.args.tokens.now)
    ∙ list_out c.args.close.now inner (grown_and 100) (bounded 100 no_trees 0) (length c.in_ok-first.rest.now) c.more.counter (grown_onto 100 tree_and (grown (λ v. map view_expr v.items) c.more.list)) (seen c.more.rest.now)
    (listed c.args.close.now inner (grown_and 100) (bounded 100 no_trees 0) (seen c.args.tokens.now)) c.more-test.false c.more.invariant.value

-- ---- operators with their operands

pub chain_at-returns-then-not-begins_operator : goal.chain_at-returns-then-not-begins_operator
chain_at-returns-then-not-begins_operator t c =
    let operand = level_at 100 (expr_at 100 c.args.nest) c.args.tight in
    let is : operators.begins_operator (c.args.tight + 1) (seen c.more.rest.now) ≡ false = search rules in
    chain_end 100 operand (c.args.tight + 1) (length c.in_ok-tree.rest.now) c.more.counter (grown view_expr c.more.tree) (seen c.more.rest.now)
    (operators.chained_at 100 operand (c.args.tight + 1) (seen c.args.tokens.now)) c.more-test.true c.more.invariant is

pub chain_at-returns-in_err-kind : goal.chain_at-returns-in_err-kind
chain_at-returns-in_err-kind t c =
    let operand = level_at 100 (expr_at 100 c.args.nest) c.args.tight in
    let is : operators.begins_operator (c.args.tight + 1) (seen c.more.rest.now) ≡ true = search rules in
    let p = err_from_is_err_and c.from_residual-in_err-kind.result c.from_residual-in_err-kind.ensures.1 in
    rw (p.1, p.2)
    (chain_fails 100 operand (c.args.tight + 1) (length c.in_ok-tree.rest.now) c.more.counter (grown view_expr c.more.tree) (seen c.more.rest.now)
    (operators.chained_at 100 operand (c.args.tight + 1) (seen c.args.tokens.now)) c.in_err-kind.field-0.0 c.more-test.true c.more.invariant is c.in_err-kind.ensures)

pub chain_at-more-preserved : goal.chain_at-more-preserved
chain_at-more-preserved t c =
    let operand = level_at 100 (expr_at 100 c.args.nest) c.args.tight in
    let is : operators.begins_operator (c.args.tight + 1) (seen c.more.rest.now) ≡ true = search rules in
    chain_next 100 operand (c.args.tight + 1) (length c.in_ok-tree.rest.now) c.more.counter (grown view_expr c.more.tree) (seen c.more.rest.now)
    (operators.chained_at 100 operand (c.args.tight + 1) (seen c.args.tokens.now)) c.in_ok-kind.kind (grown view_expr c.in_ok-kind.operand) (seen c.in_ok-kind.after.now) (grown view_expr c.in_ok-tree-2.tree)
    c.more-test.true c.more.invariant is c.in_ok-kind.ensures c.in_ok-tree-2.ensures

pub chain_at-returns : goal.chain_at-returns
chain_at-returns t c =
    let operand = level_at 100 (expr_at 100 c.args.nest) c.args.tight in
    chain_out 100 operand (c.args.tight + 1) (length c.in_ok-tree.rest.now) c.more.counter (grown view_expr c.more.tree) (seen c.more.rest.now)
    (operators.chained_at 100 operand (c.args.tight + 1) (seen c.args.tokens.now)) c.more-test.false c.more.invariant

-- ---- steps

pub steps_at-more-init : goal.steps_at-more-init
steps_at-more-init t c = record {
  value = steps_begin 100 (expr_at 100 c.args.nest) (map view_step c.new.result.items) c.args.tokens.now c.in_ok-rest.rest.now (ap (map view_step) c.new.ensures.items) c.in_ok-rest.ensures;
  fits = search rules;
}

pub steps_at-returns-then-not-begins_step : goal.steps_at-returns-then-not-begins_step
steps_at-returns-then-not-begins_step t c =
    let is : path_steps.begins_step (seen c.more.rest.now) ≡ false = search rules in
    steps_end 100 (expr_at 100 c.args.nest) (length c.in_ok-rest.rest.now) c.more.counter (grown (λ v. map view_step v.items) c.more.steps) (seen c.more.rest.now)
    (path_steps.steps_behind 100 (expr_at 100 c.args.nest) (seen c.args.tokens.now)) c.more-test.true c.more.invariant.value is
    ∙ ap (λ ss. Some (ss, seen c.more.rest.now)) (grown_done 100 step_and no_steps steps_of (λ v. map view_step v.items) c.more.steps onto_steps c.more.invariant.fits)

pub steps_at-returns-in_err-step : goal.steps_at-returns-in_err-step
steps_at-returns-in_err-step t c =
    let is : path_steps.begins_step (seen c.more.rest.now) ≡ true = search rules in
    let p = err_from_is_err_and c.from_residual-in_err-step.result c.from_residual-in_err-step.ensures.1 in
    rw (p.1, p.2)
    (steps_fails 100 (expr_at 100 c.args.nest) (length c.in_ok-rest.rest.now) c.more.counter (grown (λ v. map view_step v.items) c.more.steps) (seen c.more.rest.now)
    (path_steps.steps_behind 100 (expr_at 100 c.args.nest) (seen c.args.tokens.now)) c.in_err-step.field-0.0 c.more-test.true c.more.invariant.value is c.in_err-step.ensures)

pub steps_at-more-preserved : goal.steps_at-more-preserved
steps_at-more-preserved t c =
    let is : path_steps.begins_step (seen c.more.rest.now) ≡ true = search rules in
    record {
      value =
          steps_next 100 (expr_at 100 c.args.nest) (length c.in_ok-rest.rest.now) c.more.counter (grown (λ v. map view_step v.items) c.more.steps) (grown (λ v. map view_step v.items) c.in_ok-steps.steps) (seen c.more.rest.now)
          (path_steps.steps_behind 100 (expr_at 100 c.args.nest) (seen c.args.tokens.now)) (grown view_step c.in_ok-step.step) (seen c.in_ok-step.after.now) c.more-test.true c.more.invariant.value is
          c.in_ok-step.ensures c.in_ok-steps.ensures.value;
      fits = c.in_ok-steps.ensures.fits;
    }

pub steps_at-returns : goal.steps_at-returns
steps_at-returns t c =
    steps_out 100 (expr_at 100 c.args.nest) (length c.in_ok-rest.rest.now) c.more.counter (grown (λ v. map view_step v.items) c.more.steps) (seen c.more.rest.now)
    (path_steps.steps_behind 100 (expr_at 100 c.args.nest) (seen c.args.tokens.now)) c.more-test.false c.more.invariant.value
    ∙ ap (λ ss. Some (ss, seen c.more.rest.now)) (grown_done 100 step_and no_steps steps_of (λ v. map view_step v.items) c.more.steps onto_steps c.more.invariant.fits)

-- ---- signs

pub unary_at-returns-in_err-operand : goal.unary_at-returns-in_err-operand
unary_at-returns-in_err-operand t c =
    let p = err_from_is_err_and c.from_residual.result c.from_residual.ensures.1 in
    rw (p.1, p.2) (signs_fail 100 (expr_at 100 c.args.nest) c.args.tokens.now c.signs.result.1.now c.in_err-operand.field-0.0 c.signs.ensures.back c.in_err-operand.ensures)

pub unary_at-returns : goal.unary_at-returns
unary_at-returns t c =
    signs_spelled 100 (expr_at 100 c.args.nest) c.args.tokens.now c.signs.result.0.now c.signs.result.1.now (grown view_expr c.in_ok-operand.operand) (grown view_expr c.in_ok-tree.tree) (seen c.in_ok-operand.rest.now)
    c.signs.ensures.front c.signs.ensures.back c.in_ok-operand.ensures c.in_ok-tree.ensures

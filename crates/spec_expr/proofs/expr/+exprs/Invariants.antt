use Rattle.std.proofs.Common.{◌≡◌, ◌+◌, ◌-◌, ◌*◌, ◌++◌, length, max, map}
use Rattle.spec_ast.specs.Raw.{no_trees, step_and, tree_and}
use Rattle.spec_ast.specs.View.{view_expr, view_step}
use Rattle.spec_expr.specs.Grown.{bounded}
use Rattle.spec_expr.specs.Fronts.{grown, seen, IsWithin}
use Rattle.spec_expr.specs.Reading.{grown_and, expr_at, level_at}
use Rattle.spec_expr.specs.Operators.{chained_at}
use Rattle.spec_expr.specs.PathSteps.{steps_behind}
use Rattle.spec_expr.specs.Many.{listed}
use Rattle.spec_expr.proofs.Lists.{ListLeft}
use Rattle.spec_expr.proofs.Operands.{ChainLeft}
use Rattle.spec_expr.proofs.Paths.{StepsLeft, grown_onto}
use Rattle.spec_expr.proofs.expr.+exprs.Given as goal

-- what stands in brackets has one bracket less to open; within one bracket each reader calls the next
abbrev pub decreases-expr_at : goal.decreases-expr_at
decreases-expr_at l = 64 * l.nest

abbrev pub decreases-closed_at : goal.decreases-closed_at
decreases-closed_at l = 64 * l.nest + 1

abbrev pub decreases-step_at : goal.decreases-step_at
decreases-step_at l = 64 * l.nest + 2

abbrev pub decreases-steps_at : goal.decreases-steps_at
decreases-steps_at l = 64 * l.nest + 3

abbrev pub decreases-arguments_at : goal.decreases-arguments_at
decreases-arguments_at l = 64 * l.nest + 3

abbrev pub decreases-path_at : goal.decreases-path_at
decreases-path_at l = 64 * l.nest + 4

abbrev pub decreases-read_from : goal.decreases-read_from
decreases-read_from l = 64 * l.nest + 4

abbrev pub decreases-pair_at : goal.decreases-pair_at
decreases-pair_at l = 64 * l.nest + 4

abbrev pub decreases-choice_at : goal.decreases-choice_at
decreases-choice_at l = 64 * l.nest + 4

abbrev pub decreases-headed_at : goal.decreases-headed_at
decreases-headed_at l = 64 * l.nest + 4

abbrev pub decreases-call_at : goal.decreases-call_at
decreases-call_at l = 64 * l.nest + 5

abbrev pub decreases-called_at : goal.decreases-called_at
decreases-called_at l = 64 * l.nest + 6

abbrev pub decreases-dotted_at : goal.decreases-dotted_at
decreases-dotted_at l = 64 * l.nest + 6

abbrev pub decreases-beside_at : goal.decreases-beside_at
decreases-beside_at l = 64 * l.nest + 7

abbrev pub decreases-primary_at : goal.decreases-primary_at
decreases-primary_at l = 64 * l.nest + 8

abbrev pub decreases-unary_at : goal.decreases-unary_at
decreases-unary_at l = 64 * l.nest + 9

abbrev pub decreases-level_at : goal.decreases-level_at
decreases-level_at l = 64 * l.nest + 10 + 3 * l.loose

abbrev pub decreases-operand_at : goal.decreases-operand_at
decreases-operand_at l = 64 * l.nest + 11 + 3 * l.tight

abbrev pub decreases-chain_at : goal.decreases-chain_at
decreases-chain_at l = 64 * l.nest + 12 + 3 * l.tight

abbrev pub decreases-compared_at : goal.decreases-compared_at
decreases-compared_at l = 64 * l.nest + 40

abbrev pub decreases-whole_at : goal.decreases-whole_at
decreases-whole_at l = 64 * l.nest + 41

abbrev pub invariant-chain_at-more : goal.invariant-chain_at-more
invariant-chain_at-more l =
    ChainLeft 100 (level_at 100 (expr_at 100 l.nest) l.tight) (l.tight + 1) l.most l.counter (grown view_expr l.tree) (seen l.rest)
    (chained_at 100 (level_at 100 (expr_at 100 l.nest) l.tight) (l.tight + 1) (seen l.tokens))

abbrev pub invariant-arguments_at-more : goal.invariant-arguments_at-more
invariant-arguments_at-more l = record {
  value : ListLeft l.close (expr_at 100 l.nest) (grown_and 100) (bounded 100 no_trees 0) l.most l.counter (grown_onto 100 tree_and (grown (λ v. map view_expr v.items) l.list)) (seen l.rest)
      (listed l.close (expr_at 100 l.nest) (grown_and 100) (bounded 100 no_trees 0) (seen l.tokens));
  fits : IsWithin 100 l.list;
}

abbrev pub invariant-steps_at-more : goal.invariant-steps_at-more
invariant-steps_at-more l = record {
  value : StepsLeft 100 (expr_at 100 l.nest) l.most l.counter (grown (λ v. map view_step v.items) l.steps) (seen l.rest) (steps_behind 100 (expr_at 100 l.nest) (seen l.tokens));
  fits : IsWithin 100 l.steps;
}

use Rattle.std.proofs.Common.{◌≡◌, ◌++◌, drop}
use Rattle.spec_tree.specs.Value.{values}
use Rattle.spec_tree.specs.View.{view_exprs, view_expr_list}
use Rattle.spec_number.specs.Evaluation.{context_of, env_of}
use Rattle.spec_state.specs.Lines.{AreSorted}
use Rattle.spec_state.proofs.lines.numbers_of.Given as goal

abbrev pub invariant-each : goal.invariant-each
invariant-each l = record {
  kept : l.frame ≡ l.initial.frame;
  sorted : AreSorted (context_of l.reading l.initial.frame) (view_exprs (drop l.e-index l.items));
  numbers : l.numbers.items ++ values (context_of l.reading l.initial.frame) (env_of l.reading l.initial.frame) (view_exprs (drop l.e-index l.items))
      ≡ values (context_of l.reading l.initial.frame) (env_of l.reading l.initial.frame) (view_expr_list l.es);
}

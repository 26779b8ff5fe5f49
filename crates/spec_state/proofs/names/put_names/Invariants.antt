use Rattle.std.proofs.Common.{◌≡◌, drop, map}
use Rattle.spec_tree.specs.Sorted.{AreLocals, with_locals}
use Rattle.spec_tree.specs.View.{view_expr, view_locals}
use Rattle.spec_tree.specs.Meaning.{with_values}
use Rattle.spec_number.specs.Evaluation.{Stands, context_of, env_of}
use Rattle.spec_state.proofs.names.put_names.Given as goal

-- what is left ends as the whole does
abbrev pub invariant-each : goal.invariant-each
invariant-each l = record {
  stands : Stands l.reading l.frame;
  sorted : AreLocals (context_of l.reading l.frame) (map view_expr (drop l.e-index l.items));
  context : with_locals (context_of l.reading l.frame) (map view_expr (drop l.e-index l.items)) ≡ with_locals (context_of l.reading l.initial.frame) (view_locals l.names);
  env : with_values (context_of l.reading l.frame) (env_of l.reading l.frame) (map view_expr (drop l.e-index l.items))
      ≡ with_values (context_of l.reading l.initial.frame) (env_of l.reading l.initial.frame) (view_locals l.names);
}

use Rattle.std.proofs.Common.{◌≡◌, drop, map}
use Rattle.spec_tree.specs.Sorted.{AreLines, lets_of, with_locals}
use Rattle.spec_tree.specs.View.{view_line}
use Rattle.spec_tree.specs.Meaning.{after_lines}
use Rattle.spec_number.specs.Evaluation.{context_of}
use Rattle.spec_state.specs.Lines.{env_with, StandsWith}
use Rattle.spec_state.proofs.lines.go_through.Given as goal

-- what is left ends as the whole does
abbrev pub invariant-each : goal.invariant-each
invariant-each l = record {
  stands : StandsWith l.base l.new l.frame;
  sorted : AreLines (context_of l.base l.frame) (map view_line (drop l.line-index l.lines));
  context : with_locals (context_of l.base l.frame) (lets_of (map view_line (drop l.line-index l.lines))) ≡ with_locals (context_of l.base l.initial.frame) (lets_of (map view_line l.lines));
  env : after_lines (context_of l.base l.frame) (env_with l.base l.new l.frame) (map view_line (drop l.line-index l.lines))
      ≡ after_lines (context_of l.base l.initial.frame) (env_with l.base l.initial.new l.initial.frame) (map view_line l.lines);
}

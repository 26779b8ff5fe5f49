use Rattle.std.proofs.Common.{◌≡◌, ◌≤◌, drop}
use Rattle.ir_lex.specs.Items.{number_behind}
use Rattle.ir_top.specs.TopView.{view_parameters}
use Rattle.ir_read.proofs.number.number_behind.Given as goal

abbrev pub invariant-loop-at : goal.invariant-loop-at
invariant-loop-at l = record {
  so_far : number_behind l.next (view_parameters (drop l.at l.parameters)) ≡ number_behind 0 (view_parameters l.parameters);
  within : l.next ≤ l.at;
}

use Rattle.std.proofs.Common.{drop}
use Rattle.ir_lex.specs.Cut.{cuts_of}
use Rattle.ir_read.specs.View.{AreCounted, state_of}
use Rattle.ir_read.proofs.Walk.{SoFar}
use Rattle.ir_read.proofs.text.read_items.Given as goal

abbrev pub invariant-loop-at : goal.invariant-loop-at
invariant-loop-at l = record {
  counted : AreCounted l.whole;
  so_far : SoFar (state_of l.whole l.body) (cuts_of (drop l.at l.items)) (cuts_of l.items);
}

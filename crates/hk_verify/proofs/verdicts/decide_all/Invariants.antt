use Rattle.std.proofs.Common.{◌≡◌, true, take, map, vec_len}
use Rattle.std.specs.Vec.{vec_capacity}
use Rattle.ir_ast.specs.ProgramView.{view_module}
use Rattle.spec_tree.specs.View.{view_spec, view_transition}
use Rattle.hk_verify.specs.Verdicts.{AreKept}
use Rattle.hk_verify.proofs.Pushes.{SoFar}
use Rattle.hk_verify.proofs.verdicts.decide_all.Given as goal

-- the handlers so far have right verdicts, and their lines are shown
abbrev pub invariant-loop-place : goal.invariant-loop-place
invariant-loop-place g l = record {
  so_far : SoFar l.budget (view_module l.kernel) (view_spec l.spec) (take l.place (map view_transition l.transitions)) l.verdicts.items (g.O.Sink.shown l.fn.out) (g.O.Sink.shown l.out);
  room : vec_capacity l.verdicts ≡ vec_capacity l.fn.verdicts;
  counted : vec_len l.verdicts ≡ l.place;
  kept : l.keep ≡ true → AreKept (view_spec l.spec) (take l.place (map view_transition l.transitions)) l.verdicts.items;
  still : g.O.Sink.faults l.out ≡ g.O.Sink.faults l.fn.out;
}

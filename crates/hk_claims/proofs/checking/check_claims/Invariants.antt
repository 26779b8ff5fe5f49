use Rattle.std.proofs.Common.{◌≡◌, ◌≤◌, take, vec_len}
use Rattle.std.specs.Vec.{vec_capacity}
use Rattle.std.specs.List.{zip}
use Rattle.ir_ast.specs.ProgramView.{view_module}
use Rattle.spec_tree.specs.View.{view_spec}
use Rattle.hk_claims.proofs.Checked.{SoFar}
use Rattle.hk_claims.proofs.checking.check_claims.Given as goal

-- the handlers so far have their lines, and those of them that are claimed their verdicts
abbrev pub invariant-each : goal.invariant-each
invariant-each g l = record {
  so_far : SoFar (view_module l.kernel) (view_spec l.spec) (take l.place (zip (view_spec l.spec).transitions l.entries)) l.verdicts.items (g.O.Sink.shown l.fn.out) (g.O.Sink.shown l.out);
  still : g.O.Sink.faults l.out ≡ g.O.Sink.faults l.fn.out;
  room : vec_capacity l.verdicts ≡ vec_capacity l.fn.verdicts;
  counted : vec_len l.verdicts ≤ l.place;
}

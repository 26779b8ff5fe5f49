use Rattle.std.proofs.Common.{◌≡◌, take}
use Rattle.std.specs.List.{zip}
use Rattle.ir_ast.specs.ProgramView.{view_module}
use Rattle.spec_tree.specs.View.{view_spec}
use Rattle.hk_claims.proofs.Marks.{SoFar}
use Rattle.hk_claims.proofs.replaying.replay_claims.Given as goal

-- the rejections so far have their lines
abbrev pub invariant-each : goal.invariant-each
invariant-each g l = record {
  so_far : SoFar (view_module l.kernel) (view_spec l.spec) (take l.place (zip (view_spec l.spec).transitions l.entries)) l.unconfirmed (g.O.Sink.shown l.fn.out) (g.O.Sink.shown l.out);
  still : g.O.Sink.faults l.out ≡ g.O.Sink.faults l.fn.out;
}

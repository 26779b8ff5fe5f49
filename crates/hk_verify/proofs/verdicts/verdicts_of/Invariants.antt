use Rattle.std.proofs.Common.{◌≡◌, ◌≤◌, length, take, map, vec_len}
use Rattle.std.specs.Vec.{vec_capacity}
use Rattle.ir_ast.specs.ProgramView.{view_module}
use Rattle.spec_tree.specs.View.{view_spec, view_transition}
use Rattle.hk_verify.specs.Verdicts.{AreRight}
use Rattle.hk_verify.proofs.verdicts.verdicts_of.Given as goal

-- the handlers so far have right verdicts, and there is room for the others
abbrev pub invariant-loop-place : goal.invariant-loop-place
invariant-loop-place l = record {
  right : AreRight l.budget (view_module l.kernel) (view_spec l.spec) (take l.place (map view_transition l.transitions)) l.verdicts.items;
  room : length l.transitions ≤ vec_capacity l.verdicts;
  counted : vec_len l.verdicts ≡ l.place;
}

use Rattle.std.proofs.Common.{◌≡◌, drop}
use Rattle.ir_layout.specs.Texts.{is_bad_behind}
use Rattle.ir_layout.proofs.text.is_bad_behind.Given as goal

abbrev pub invariant-loop-place : goal.invariant-loop-place
invariant-loop-place l = is_bad_behind (drop l.place l.bytes) ≡ is_bad_behind l.bytes

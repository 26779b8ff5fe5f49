use Rattle.std.proofs.Common.{◌≡◌, ◌++◌, drop}
use Rattle.ir_layout.specs.Offsets.{with_roots}
use Rattle.ir_layout.proofs.fields.names_with.Given as goal

abbrev pub invariant-loop-place : goal.invariant-loop-place
invariant-loop-place l = l.names ++ with_roots l.place (drop l.place l.types) l.roots ≡ with_roots 0 l.types l.roots

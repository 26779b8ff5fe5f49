use Rattle.std.proofs.Common.{◌≡◌, ◌<◌, Some, length, drop}
use Rattle.ir_ast.specs.View.{view_indices}
use Rattle.ir_whole.specs.Heads.{type_at}
use Rattle.ir_whole.specs.Numbers.{types_of}
use Rattle.ir_typing.specs.Fits.{steps}
use Rattle.ir_typing.proofs.fit.steps.Given as goal

abbrev pub invariant-each : goal.invariant-each
invariant-each l = record {
  some : 0 < l.at;
  within : l.at < length (types_of l.numbers);
  left : steps (Some (type_at (types_of l.numbers) l.at)) (view_indices (drop l.index-index l.indices)) ≡ steps (Some (type_at (types_of l.numbers) l.first)) (view_indices l.indices);
}

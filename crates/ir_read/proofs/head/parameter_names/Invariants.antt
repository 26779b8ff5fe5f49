use Rattle.std.proofs.Common.{◌≡◌, [], drop, map}
use Rattle.ir_read.specs.Steps.{with_names}
use Rattle.ir_top.specs.TopView.{view_parameters}
use Rattle.ir_read.proofs.head.parameter_names.Given as goal

abbrev pub invariant-loop-name : goal.invariant-loop-name
invariant-loop-name l = with_names l.names (map (λ p. p.1) (view_parameters (drop l.name-index l.parameters))) ≡ with_names [] (map (λ p. p.1) (view_parameters l.parameters))

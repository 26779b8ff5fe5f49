use Rattle.std.proofs.Common.{◌≡◌, map, drop}
use Rattle.spec_kernel.specs.Seen.{view_value}
use Rattle.spec_lines.specs.Behind.{arguments}
use Rattle.spec_lines.proofs.step.add_arguments.Given as goal

abbrev pub invariant-each : goal.invariant-each
invariant-each l =
    arguments (map view_value l.types) l.names l.place (drop l.parameter-index l.parameters) ≡ arguments (map view_value l.types) l.initial.names 0 l.parameters

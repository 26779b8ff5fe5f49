use Rattle.std.proofs.Common.{◌≡◌, drop}
use Rattle.ir_typed.specs.SpelledCode.{are_functions_spelled}
use Rattle.ir_typed.proofs.spelling.are_functions_spelled.Given as goal

abbrev pub invariant-each : goal.invariant-each
invariant-each l = are_functions_spelled (drop l.place l.functions) ≡ are_functions_spelled l.functions

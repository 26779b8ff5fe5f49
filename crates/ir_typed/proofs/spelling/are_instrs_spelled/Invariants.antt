use Rattle.std.proofs.Common.{◌≡◌, drop}
use Rattle.ir_typed.specs.SpelledCode.{are_instrs_spelled}
use Rattle.ir_typed.proofs.spelling.are_instrs_spelled.Given as goal

abbrev pub invariant-each : goal.invariant-each
invariant-each l = are_instrs_spelled (drop l.instr-index l.instrs) ≡ are_instrs_spelled l.instrs

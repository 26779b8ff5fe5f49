use Rattle.std.proofs.Common.{◌≡◌, ◌++◌, drop}
use Rattle.ir_resolve.specs.Locals.{instr_flags}
use Rattle.ir_resolve.proofs.local.add_instrs.Given as goal

abbrev pub invariant-each : goal.invariant-each
invariant-each l = l.slots.items ++ instr_flags (drop l.instr-index l.instrs) ≡ l.initial.slots.items ++ instr_flags l.instrs

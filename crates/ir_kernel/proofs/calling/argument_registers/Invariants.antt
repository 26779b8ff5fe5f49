use Rattle.std.proofs.Common.{◌≡◌, map, take}
use Rattle.std.specs.Prelude.{Some}
use Rattle.ir_value.specs.declared.value.Value.TheVariants.{Number}
use Rattle.ir_machine.specs.declared.state.Held.TheVariants as held
use Rattle.ir_kernel.proofs.calling.argument_registers.Given as goal

abbrev pub invariant-loop-number : goal.invariant-loop-number
invariant-loop-number l =
    l.registers.items ≡ map (λ n. Some (held.Value (Number n))) (take l.number-index l.fn.arguments)

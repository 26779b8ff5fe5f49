use Rattle.std.proofs.Common.{◌≡◌, ◌++◌, ◌-◌, map}
use Rattle.std.specs.Prelude.{Some}
use Rattle.ir_value.specs.declared.value.Value.TheVariants.{Number}
use Rattle.ir_machine.specs.declared.state.Held.TheVariants as held
use Rattle.ir_machine.specs.Step.{unset}
use Rattle.ir_kernel.proofs.calling.first_registers.Given as goal

abbrev pub invariant-loop : goal.invariant-loop
invariant-loop l =
    l.registers.items ++ unset (l.fn.unset - l.counter) ≡ map (λ n. Some (held.Value (Number n))) l.fn.arguments ++ unset l.fn.unset

use Rattle.std.proofs.Common.{◌++◌, take}
use Rattle.hk_term.specs.Meaning.{Reading}
use Rattle.ir_machine.specs.Values.{Registers}
use Rattle.ir_machine.specs.Step.{argument_registers, unset}
use Rattle.hk_symmem.specs.Guarded.{memory_at}
use Rattle.hk_symstep.specs.Files.{Covers, IsFile, IsWithin, registers_of}
use Rattle.hk_symexec.proofs.Calling.{Passing}
use Rattle.hk_symexec.proofs.calls.first_file.Given as goal

abbrev pub invariant-loop-argument : goal.invariant-loop-argument
invariant-loop-argument g l = Passing l.fn.t l.t l.fn.file l.fn.memory (take l.argument-index l.arguments) l.places.items

abbrev pub invariant-loop : goal.invariant-loop
invariant-loop g l = IsFile l.t l.places.items × ((v : Reading) (rs : Registers) → Covers l.fn.t v l.fn.file rs → IsWithin (argument_registers (memory_at l.fn.t l.fn.memory v) rs l.fn.arguments ++ unset l.counter) (registers_of l.t v l.places.items))

use Rattle.std.proofs.Common.{◌≡◌, ◌++◌, take}
use Rattle.hk_term.specs.Meaning.{Reading}
use Rattle.ir_machine.specs.Step.{unset}
use Rattle.hk_symstep.specs.Files.{IsFile, registers_of}
use Rattle.hk_symexec.specs.Runs.{arguments_at, held_numbers}
use Rattle.hk_symexec.proofs.Starting.{Holding}
use Rattle.hk_symexec.proofs.starts.argument_file.Given as goal

abbrev pub invariant-loop-argument : goal.invariant-loop-argument
invariant-loop-argument l = Holding l.fn.t l.t (take l.argument-index l.fn.arguments) l.places.items

abbrev pub invariant-loop : goal.invariant-loop
invariant-loop l = IsFile l.t l.places.items × ((v : Reading) → registers_of l.t v l.places.items ≡ held_numbers (arguments_at l.fn.t v l.fn.arguments) ++ unset l.counter)

-- What the terms of a run tell of its end.
use Rattle.std.specs.Prelude.{◌≡◌, ℕ, ◌+◌, true, false, Option, Some, List, map, slice_get}
use Rattle.hk_term.specs.Meaning.{Reading, value}
use Rattle.hk_term.specs.declared.node.Node.{Node}
use Rattle.ir_ast.specs.Program.{FunctionView, ModuleView}
use Rattle.ir_value.specs.declared.value.Value.TheVariants.{Number}
use Rattle.ir_machine.specs.declared.state.Held.TheVariants as held
use Rattle.ir_machine.specs.declared.state.End.{End}
use Rattle.ir_machine.specs.declared.state.End.TheVariants.{Returned, Stuck, Lost, Unfinished}
use Rattle.ir_machine.specs.Values.{Registers}
use Rattle.ir_check.specs.Paths.{IsLength}
use Rattle.hk_symvalue.specs.declared.value.SymValue.{SymValue}
use Rattle.hk_symvalue.specs.Meaning.{is_true}
use Rattle.hk_symstep.specs.Held.{value_meaning}
use Rattle.hk_symmem.specs.Guarded.{MemoryView, memory_at}
use Rattle.hk_symexec.specs.Tracks.{HoldsBack}

-- the numbers that terms give for arguments
abbrev pub arguments_at : List Node → Reading → List ℕ → List ℕ
arguments_at nodes v arguments = map (λ a. value nodes a v) arguments

-- registers that hold these numbers
abbrev pub held_numbers : List ℕ → Registers
held_numbers numbers = map (λ n. Some (held.Value (Number n))) numbers

-- where the run comes back it is not stuck, its value, if it has one, is that of the terms, and so is the memory behind it; where it is
-- stuck the terms say so; of a run that is lost nothing is claimed
abbrev pub Tells : List Node → Reading → (undefined : ℕ) → Option SymValue → MemoryView → End → Type 0
Tells nodes v undefined returned memory (Returned x m) = (is_true nodes undefined v ≡ false) × HoldsBack (value_meaning nodes v returned) x × (memory_at nodes memory v ≡ m)
Tells nodes v undefined returned memory (Stuck reason line) = is_true nodes undefined v ≡ true
Tells nodes v undefined returned memory Lost = Unit {0}
Tells nodes v undefined returned memory Unfinished = Unit {0}

-- one more than the expanded length of the function at the place
abbrev pub IsDepth : ModuleView → ℕ → ℕ → Type 0
IsDepth m function depth =
    (e : List ℕ × FunctionView) → slice_get m.functions function ≡ Some e → (n : ℕ) × IsLength m e.0 n × (depth ≡ n + 1)

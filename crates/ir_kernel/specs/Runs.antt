-- Runs of a kernel's functions.
use Rattle.std.specs.Prelude.{◌≡◌, ℕ, true, Some, is_some, List, length, slice_get}
use Rattle.ir_ast.specs.Program.{FunctionView, ModuleView}
use Rattle.ir_check.specs.Paths.{IsLength}
use Rattle.ir_machine.specs.declared.state.End.{End}
use Rattle.ir_machine.specs.Step.{run, start}
use Rattle.ir_resolve.specs.Resolved.{code_of, program_of}

-- the function at the place, under its name; it has a body, and takes so many arguments
pub record IsCall (m : ModuleView) (function : ℕ) (arguments : List ℕ) (name : List ℕ) (called : FunctionView) : Type 0 where
  pub there : slice_get m.functions function ≡ Some (name, called)
  pub body : is_some called.body ≡ true
  pub as_many : length arguments ≡ length called.parameters

-- the function at the place can be called with these arguments
abbrev pub CanCall : ModuleView → ℕ → List ℕ → Type 0
CanCall m function arguments = (name : List ℕ) × (called : FunctionView) × IsCall m function arguments name called

-- what the run of the function at the place comes to, from these arguments and this memory, within its expanded length
pub record IsRun (m : ModuleView) (function : ℕ) (arguments : List ℕ) (memory : List (List ℕ)) (end : End) : Type 0 where
  pub name : List ℕ
  pub called : FunctionView
  pub there : slice_get m.functions function ≡ Some (name, called)
  pub steps : ℕ
  pub length : IsLength m name steps
  pub is : end ≡ run (program_of m) steps (start (code_of m called) function arguments memory)

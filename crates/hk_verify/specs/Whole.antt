-- The whole kernel that a text spells, and why a text spells none.

use Rattle.std.specs.Prelude.{ℕ, ◌≡◌, ◌⊎◌, List, Result, Ok, Err, ⊤}
use Rattle.ir_ast.specs.Program.{ModuleView}
use Rattle.ir_ast.specs.ProgramView.{view_module}
use Rattle.ir_ast.specs.declared.fault.KernelFault.{KernelFault}
use Rattle.ir_ast.specs.declared.fault.KernelStop.{KernelStop}
use Rattle.ir_ast.specs.declared.fault.KernelStop.TheVariants.{Refused, Memory as NoMemory}
use Rattle.ir_ast.specs.declared.module.Module.{Module}
use Rattle.ir_read.specs.Spelling.{IsModuleText, IsFaultyText}
use Rattle.ir_layout.specs.Rules.{IsLaidOut}
use Rattle.ir_check.specs.Rules.{IsWellFormed}
use Rattle.ir_kernel.specs.Answers.{IsRefusal}
use Rattle.hk_verify.specs.declared.answer.TopFault.{TopFault}
use Rattle.hk_verify.specs.declared.answer.TopFault.TheVariants.{Usage, Read, Long, Kernel as OfKernel, Spec as OfSpec, Cert as OfCert, Cnf as OfCnf, Call as OfCall, Memory, Write}

-- The text spells this module, which can be laid out and is well formed.
pub record IsKernelText (text : List ℕ) (m : ModuleView) : Type 0 where
  pub spelled : IsModuleText text m
  pub laid_out : IsLaidOut m
  pub well_formed : IsWellFormed m

-- The text spells this module and no other, which can be laid out and is well formed.
pub record IsWhole (text : List ℕ) (m : ModuleView) : Type 0 where
  pub spelled : IsModuleText text m
  pub only : (other : ModuleView) → IsModuleText text other → other ≡ m
  pub laid_out : IsLaidOut m
  pub well_formed : IsWellFormed m

-- The text spells a module, of which an item falls under a rule of layout, or where none does under a check.
pub record IsUnfit (text : List ℕ) (fault : KernelFault) : Type 0 where
  pub module_ : ModuleView
  pub spelled : IsModuleText text module_
  pub refused : IsRefusal module_ fault

-- What fails first: a byte outside the tokens, an item of the text, or an item of the module.
abbrev pub IsWholeFault : List ℕ → KernelFault → Type 0
IsWholeFault text fault = IsFaultyText text fault.line fault.reason ⊎ IsUnfit text fault

-- The text spells no kernel: this fails first, and nothing else does.
pub record RefusesWhole (text : List ℕ) (fault : KernelFault) : Type 0 where
  pub cause : IsWholeFault text fault
  pub only : (other : KernelFault) → IsWholeFault text other → other ≡ fault
  pub unspelled : (m : ModuleView) → IsWhole text m → ⊥

-- A refusal is the text's; memory may be refused at any text.
abbrev pub IsWholeStop : List ℕ → KernelStop → Type 0
IsWholeStop text (Refused fault) = RefusesWhole text fault
IsWholeStop text NoMemory = ⊤

-- What reading a whole kernel gives: the module that the text spells, or its refusal.
abbrev pub ReadsWhole : List ℕ → Result Module TopFault → Type 0
ReadsWhole text (Ok kernel) = IsWhole text (view_module kernel)
ReadsWhole text (Err (OfKernel f)) = RefusesWhole text f
ReadsWhole text (Err Memory) = ⊤
ReadsWhole text (Err Usage) = ⊥
ReadsWhole text (Err (Read w)) = ⊥
ReadsWhole text (Err (Long w)) = ⊥
ReadsWhole text (Err (OfSpec f)) = ⊥
ReadsWhole text (Err (OfCert f)) = ⊥
ReadsWhole text (Err (OfCnf f)) = ⊥
ReadsWhole text (Err (OfCall f)) = ⊥
ReadsWhole text (Err Write) = ⊥

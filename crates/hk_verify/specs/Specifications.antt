-- The specification that a text spells for a kernel, and why a text spells none.

use Rattle.std.specs.Prelude.{ℕ, ◌≡◌, ◌⊎◌, List, ⊤}
use Rattle.ir_ast.specs.Program.{ModuleView}
use Rattle.spec_ast.specs.Raw.{Line}
use Rattle.spec_ast.specs.declared.fault.SpecFault.{SpecFault}
use Rattle.spec_ast.specs.declared.fault.SpecStop.{SpecStop}
use Rattle.spec_ast.specs.declared.fault.SpecStop.TheVariants.{Refused, Memory}
use Rattle.spec_tree.specs.Plain.{Spec}
use Rattle.spec_read.specs.Laws.{IsSpecOf, FailsText}
use Rattle.spec_kernel.specs.View.{kernel_of}
use Rattle.spec_check.specs.Elaboration.{IsElaborated, IsRefused}

-- The text spells raw lines, which stand for this specification of the kernel: no line has a fault.
pub record IsSpecText (m : ModuleView) (text : List ℕ) (spec : Spec) : Type 0 where
  pub raw : List Line
  pub spelled : IsSpecOf text raw
  pub elaborated : IsElaborated (kernel_of m) raw spec

-- The specification that a text spells for a kernel: this one, and no other.
pub record IsTheSpec (m : ModuleView) (text : List ℕ) (spec : Spec) : Type 0 where
  pub spelled : IsSpecText m text spec
  pub only : (other : Spec) → IsSpecText m text other → other ≡ spec

-- The text spells raw lines, and this is the first of them that has a fault for the kernel, and its least fault.
pub record IsUnfitLine (m : ModuleView) (text : List ℕ) (fault : SpecFault) : Type 0 where
  pub raw : List Line
  pub spelled : IsSpecOf text raw
  pub refused : IsRefused (kernel_of m) raw fault.line fault.reason

-- What fails first: a line as it is spelled, or, where all lines are spelled, one that has a fault for the kernel.
abbrev pub IsSpecFault : ModuleView → List ℕ → SpecFault → Type 0
IsSpecFault m text fault = FailsText text fault ⊎ IsUnfitLine m text fault

-- The text spells no specification for the kernel: this fails first, and nothing else does.
pub record RefusesSpecText (m : ModuleView) (text : List ℕ) (fault : SpecFault) : Type 0 where
  pub cause : IsSpecFault m text fault
  pub only : (other : SpecFault) → IsSpecFault m text other → other ≡ fault
  pub unspelled : (spec : Spec) → IsSpecText m text spec → ⊥

-- A refusal is the text's; memory may be refused at any text.
abbrev pub IsSpecStop : ModuleView → List ℕ → SpecStop → Type 0
IsSpecStop m text (Refused fault) = RefusesSpecText m text fault
IsSpecStop m text Memory = ⊤

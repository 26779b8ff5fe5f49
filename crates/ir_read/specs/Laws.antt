-- That a text spells at most one module, or has one fault.
use Rattle.std.specs.Prelude.{◌≡◌, ℕ, List}
use Rattle.ir_ast.specs.Program.{ModuleView}
use Rattle.ir_ast.specs.declared.fault.KernelReason.{KernelReason}
use Rattle.ir_read.specs.Spelling.{IsModuleText, IsFaultyText}

abbrev pub SpellsOneModule : Type 0
SpellsOneModule = (text : List ℕ) (m n : ModuleView) → IsModuleText text m → IsModuleText text n → m ≡ n

abbrev pub HasOneFault : Type 0
HasOneFault = (text : List ℕ) (line other : ℕ) (reason cause : KernelReason) → IsFaultyText text line reason → IsFaultyText text other cause → (line ≡ other) × (reason ≡ cause)

abbrev pub SpellsOrFails : Type 0
SpellsOrFails = (text : List ℕ) (m : ModuleView) (line : ℕ) (reason : KernelReason) → IsModuleText text m → IsFaultyText text line reason → ⊥

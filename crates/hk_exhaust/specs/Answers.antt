-- What the answers of a search say.
use Rattle.std.specs.Prelude.{ℕ, ◌<◌, Bool, true, false, Option, Some, None, List}
use Rattle.ir_ast.specs.Program.{ModuleView}
use Rattle.ir_layout.specs.declared.object.Object.{Object}
use Rattle.spec_tree.specs.Plain.{Transition, Spec}
use Rattle.hk_case.specs.declared.Obligation.{Obligation}
use Rattle.hk_case.specs.declared.Case.{Case}
use Rattle.hk_case.specs.Obligations.{IsCase}
use Rattle.hk_case.specs.Violation.{Violates, IsNeverViolated}
use Rattle.hk_exhaust.specs.Enumeration.{case_at}

-- the test tells whether it is so
abbrev pub Tells : Bool → Type 0 → Type 0
Tells true p = p
Tells false p = p → ⊥

-- a case of the obligation's kind and shape that violates it, or nothing where none does
abbrev pub Finds : ModuleView → List Object → Spec → Transition → Obligation → Option Case → Type 0
Finds m objects s t o None = IsNeverViolated m objects s t o
Finds m objects s t o (Some c) = IsCase objects s t o c × Violates m s t o c

-- the case with this number, if it violates the obligation
abbrev pub FoundAt : ModuleView → List Object → Spec → Transition → Obligation → ℕ → Option Case → Type 0
FoundAt m objects s t o n None = Violates m s t o (case_at objects s t o n) → ⊥
FoundAt m objects s t o n (Some c) = IsCase objects s t o c × Violates m s t o c

-- what is found among the cases with the numbers below a count
abbrev pub FindsAmong : ModuleView → List Object → Spec → Transition → Obligation → ℕ → Option Case → Type 0
FindsAmong m objects s t o count None = (n : ℕ) → n < count → Violates m s t o (case_at objects s t o n) → ⊥
FindsAmong m objects s t o count (Some c) = IsCase objects s t o c × Violates m s t o c

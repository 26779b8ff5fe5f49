-- When a handler is correct: no case violates one of its obligations (Nelson et al., Hyperkernel, SOSP 2017: refinement and crosscutting
-- properties).
use Rattle.std.specs.Prelude.{◌≡◌, ◌≢◌, ℕ, true, false, Option, Some, None, List, [], ⊤, slice_get, slice_index_or}
use Rattle.std.specs.List.{All}
use Rattle.ir_ast.specs.Program.{ModuleView}
use Rattle.ir_layout.specs.declared.object.Object.{Object}
use Rattle.ir_kernel.specs.declared.ends.RunEnd.{RunEnd}
use Rattle.ir_kernel.specs.declared.ends.RunEnd.TheVariants.{Returned, Stuck, Lost}
use Rattle.ir_kernel.specs.Ends.{IsEndOfRun}
use Rattle.spec_tree.specs.Plain as plain
use Rattle.spec_tree.specs.Plain.{Transition, Spec}
use Rattle.spec_tree.specs.Meaning as meaning
use Rattle.spec_tree.specs.Meaning.{Step, invariant_holds, property_holds, abstraction, transition, meets_result}
use Rattle.hk_case.specs.declared.Obligation.{Obligation}
use Rattle.hk_case.specs.declared.Obligation.TheVariants.{Undefined, Invariant, State, ResultValue, Property}
use Rattle.hk_case.specs.declared.Case.{Case}
use Rattle.hk_case.specs.declared.Case.TheVariants.{Machine, Abstract}
use Rattle.hk_case.specs.Obligations.{IsCase, obligations_of}

abbrev pub Memory : Type 0
Memory = List (List ℕ)

-- the run comes to no return: it is stuck, or, which no run of a checked kernel is, lost
abbrev pub IsStuck : RunEnd → Type 0
IsStuck (Returned value memory) = ⊥
IsStuck (Stuck reason line) = ⊤
IsStuck Lost = ⊤

-- the step that the specification asks for from a machine state
abbrev pub specified : Spec → Transition → Memory → List ℕ → Step
specified s t memory args = transition s t (abstraction s memory) args

-- an invariant is false in a machine state
abbrev pub Breaks : Spec → Memory → ℕ → Type 0
Breaks s memory i = (n : plain.Named) × (slice_get s.invariants i ≡ Some n) × (invariant_holds s n memory ≡ false)

-- two abstract states differ in a field
abbrev pub Differ : List (List ℕ) → List (List ℕ) → ℕ → Type 0
Differ after wanted f = slice_index_or after f [] ≢ slice_index_or wanted f []

-- a run from a machine state that came to this end misses the obligation
abbrev pub Misses : Spec → Transition → Memory → List ℕ → Obligation → RunEnd → Type 0
Misses s t memory args Undefined end = IsStuck end
Misses s t memory args (Invariant i) (Returned value after) = Breaks s after i
Misses s t memory args (State f) (Returned value after) = Differ (abstraction s after) (specified s t memory args).state f
Misses s t memory args ResultValue (Returned (Some n) after) =
    meets_result (specified s t memory args).result (specified s t memory args).valid n ≡ false
Misses s t memory args o end = ⊥

-- all properties hold in an abstract state
abbrev pub HaveProperties : Spec → List (List ℕ) → Type 0
HaveProperties s state = All (λ p. property_holds s p state ≡ true) s.properties

-- a property is false in an abstract state
abbrev pub Fails : Spec → List (List ℕ) → ℕ → Type 0
Fails s state p = (n : plain.Named) × (slice_get s.properties p ≡ Some n) × (property_holds s n state ≡ false)

-- the case violates this obligation of the handler
abbrev pub Violates : ModuleView → Spec → Transition → Obligation → Case → Type 0
Violates m s t (Property p) (Abstract state args) = HaveProperties s state × Fails s (transition s t state args).state p
Violates m s t (Property p) (Machine memory args) = ⊥
Violates m s t o (Abstract state args) = ⊥
Violates m s t o (Machine memory args) =
    meaning.Invariant s memory × (end : RunEnd) × IsEndOfRun m t.function args memory end × Misses s t memory args o end

-- no case of its shape violates this obligation
abbrev pub IsNeverViolated : ModuleView → List Object → Spec → Transition → Obligation → Type 0
IsNeverViolated m objects s t o = (c : Case) → IsCase objects s t o c → Violates m s t o c → ⊥

-- the handler is correct: no case violates any of its obligations
abbrev pub IsCorrect : ModuleView → List Object → Spec → Transition → Type 0
IsCorrect m objects s t = All (IsNeverViolated m objects s t) (obligations_of s t)

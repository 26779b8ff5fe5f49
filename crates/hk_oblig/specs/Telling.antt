-- What the values of the parts of a goal mean for a case.
use Rattle.std.specs.Prelude.{◌≡◌, ◌<◌, ◌↔◌, ℕ, Bool, true, false, IsTrue, Option, Some, option_map, List, [], length, slice_get, slice_index, slice_index_or}
use Rattle.hk_term.specs.Meaning.{Reading, value}
use Rattle.hk_term.specs.declared.node.Node.{Node}
use Rattle.hk_symvalue.specs.Meaning.{is_true}
use Rattle.ir_ast.specs.Program.{ModuleView}
use Rattle.ir_kernel.specs.declared.ends.RunEnd.{RunEnd}
use Rattle.ir_kernel.specs.declared.ends.RunEnd.TheVariants.{Returned, Stuck, Lost}
use Rattle.ir_kernel.specs.Ends.{IsEndOfRun}
use Rattle.spec_tree.specs.Plain.{Named, Transition, Spec}
use Rattle.spec_tree.specs.Meaning as meaning
use Rattle.spec_tree.specs.Meaning.{invariant_holds, property_holds, abstraction, transition}
use Rattle.hk_case.specs.declared.Case.{Case}
use Rattle.hk_case.specs.declared.Case.TheVariants.{Machine, Abstract}
use Rattle.hk_case.specs.Violation.{Memory, specified, HaveProperties}
use Rattle.hk_symresult.specs.Results.{TellsResult}
use Rattle.hk_oblig.specs.declared.parts.RunParts.{RunParts}
use Rattle.hk_oblig.specs.declared.parts.StepParts.{StepParts}
use Rattle.hk_oblig.specs.declared.parts.Parts.{Parts}
use Rattle.hk_oblig.specs.declared.parts.Parts.TheVariants.{Run, Step}

-- one truth for each invariant or property, which tells whether it holds
pub record TellEach (nodes : List Node) (v : Reading) (terms : List ℕ) (named : List Named) (holds : Named → Bool) : Type 0 where
  pub count : length terms ≡ length named
  pub each : (k : ℕ) (n : Named) → slice_get named k ≡ Some n → is_true nodes (slice_index terms k) v ≡ holds n

-- one truth for each field, which tells whether all its entries agree
pub record TellFields (nodes : List Node) (v : Reading) (terms : List ℕ) (s : Spec) (after wanted : List (List ℕ)) : Type 0 where
  pub count : length terms ≡ length s.fields
  pub each : (f : ℕ) → f < length s.fields
      → IsTrue (is_true nodes (slice_index terms f) v) ↔ (slice_index_or after f [] ≡ slice_index_or wanted f [])

-- what is told of a run that comes back with a value and a memory
pub record TellsReturn (nodes : List Node) (v : Reading) (p : RunParts) (s : Spec) (t : Transition) (memory : Memory) (args : List ℕ)
    (returned : Option ℕ) (after : Memory) : Type 0 where
  pub defined : is_true nodes p.undefined v ≡ false
  pub kept : TellEach nodes v p.kept s.invariants (λ n. invariant_holds s n after)
  pub agree : TellFields nodes v p.agree s (abstraction s after) (specified s t memory args).state
  pub result : TellsResult nodes v p.result returned

-- what is told of the end of a run, which is not lost
abbrev pub TellsEnd : List Node → Reading → RunParts → Spec → Transition → Memory → List ℕ → RunEnd → Type 0
TellsEnd nodes v p s t memory args (Returned returned after) = TellsReturn nodes v p s t memory args returned after
TellsEnd nodes v p s t memory args (Stuck reason line) = is_true nodes p.undefined v ≡ true
TellsEnd nodes v p s t memory args Lost = ⊥

-- what the parts tell of a machine state with arguments: the run from them ends, and each end of it is told
pub record TellsRun (m : ModuleView) (nodes : List Node) (v : Reading) (p : RunParts) (s : Spec) (t : Transition) (memory : Memory)
    (args : List ℕ) : Type 0 where
  pub invariants : IsTrue (is_true nodes p.invariants v) ↔ meaning.Invariant s memory
  pub ends : (end : RunEnd) × IsEndOfRun m t.function args memory end
  pub end : (end : RunEnd) → IsEndOfRun m t.function args memory end → TellsEnd nodes v p s t memory args end
  pub valid : is_true nodes p.valid v ≡ (specified s t memory args).valid
  pub wanted : option_map (λ k. value nodes k v) p.wanted ≡ (specified s t memory args).result

-- what the parts tell of an abstract state with arguments
pub record TellsStep (nodes : List Node) (v : Reading) (p : StepParts) (s : Spec) (t : Transition) (state : List (List ℕ))
    (args : List ℕ) : Type 0 where
  pub properties : IsTrue (is_true nodes p.properties v) ↔ HaveProperties s state
  pub behind : TellEach nodes v p.behind s.properties (λ n. property_holds s n (transition s t state args).state)

-- what the parts tell of a case of their kind
abbrev pub Tells : ModuleView → List Node → Reading → Parts → Spec → Transition → Case → Type 0
Tells m nodes v (Run p) s t (Machine memory args) = TellsRun m nodes v p s t memory args
Tells m nodes v (Step p) s t (Abstract state args) = TellsStep nodes v p s t state args
Tells m nodes v _ s t _ = ⊥

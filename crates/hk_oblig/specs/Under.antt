-- What terms stand for under a reading, and what is told of the two ends of a run.
use Rattle.std.specs.Prelude.{◌≡◌, ◌↔◌, ℕ, true, false, IsTrue, Option, Some, option_map, List}
use Rattle.hk_term.specs.Meaning.{Reading, value}
use Rattle.hk_term.specs.declared.node.Node.{Node}
use Rattle.ir_ast.specs.Program.{ModuleView}
use Rattle.ir_kernel.specs.declared.ends.RunEnd.{RunEnd}
use Rattle.ir_kernel.specs.declared.ends.RunEnd.TheVariants.{Returned, Stuck, Lost}
use Rattle.ir_kernel.specs.Ends.{IsEndOfRun}
use Rattle.hk_symvalue.specs.Meaning.{is_true}
use Rattle.hk_symmem.specs.Guarded.{MemoryView, memory_at}
use Rattle.spec_tree.specs.Plain.{Spec}
use Rattle.spec_tree.specs.Meaning as meaning
use Rattle.spec_tree.specs.Meaning.{State, Memory, Step, invariant_holds, abstraction}
use Rattle.hk_symspec.specs.States.{StateView, numbers_at, state_at}
use Rattle.hk_symspec.specs.Standing.{IsSteady, IsSteadyMemory, formula_base}
use Rattle.hk_symspec.specs.Steps.{AreSteadyTerms}
use Rattle.hk_symresult.specs.Results.{TellsResult}
use Rattle.hk_oblig.specs.Telling.{TellEach, TellFields}

-- ---- what stands under a reading

-- the memory is this, and depends on no variable of a formula
pub record IsMemoryAt (nodes : List Node) (memory : MemoryView) (v : Reading) (is : Memory) : Type 0 where
  pub same : memory_at nodes memory v ≡ is
  pub steady : IsSteadyMemory formula_base nodes (Some memory) v

-- the state is this, and depends on no variable of a formula
pub record IsStateAt (s : Spec) (nodes : List Node) (state : StateView) (v : Reading) (is : State) : Type 0 where
  pub same : state_at s nodes state v ≡ is
  pub steady : IsSteady formula_base s nodes state v

-- the terms have these numbers, which depend on no variable of a formula
pub record AreNumbersAt (nodes : List Node) (terms : List ℕ) (v : Reading) (are : List ℕ) : Type 0 where
  pub same : numbers_at nodes terms v ≡ are
  pub steady : AreSteadyTerms formula_base nodes terms v

-- a truth, a state and the term of a result are those of a step
pub record TellStep (s : Spec) (nodes : List Node) (v : Reading) (truth : ℕ) (end : StateView) (term : Option ℕ) (step : Step) : Type 0 where
  pub valid : is_true nodes truth v ≡ step.valid
  pub state : IsStateAt s nodes end v step.state
  pub result : option_map (λ k. value nodes k v) term ≡ step.result

-- ---- the ends of a run

-- what is told where it begins: of the invariants, and of the step that is asked for
pub record TellFirst (nodes : List Node) (v : Reading) (s : Spec) (memory : Memory) (step : Step) (holding truth : ℕ) (term : Option ℕ) : Type 0 where
  pub invariants : IsTrue (is_true nodes holding v) ↔ meaning.Invariant s memory
  pub valid : is_true nodes truth v ≡ step.valid
  pub wanted : option_map (λ k. value nodes k v) term ≡ step.result

-- what is told of the memory behind it: of the invariants, and of the fields against the end state of the step
pub record TellBehind (nodes : List Node) (v : Reading) (s : Spec) (after : Memory) (step : Step) (holding agreeing : List ℕ) : Type 0 where
  pub kept : TellEach nodes v holding s.invariants (λ n. invariant_holds s n after)
  pub agree : TellFields nodes v agreeing s (abstraction s after) step.state

-- what is told of the end itself, which is not lost: of a return the memory behind it, which depends on no variable of a formula
abbrev pub TellOutEnd : List Node → Reading → (undefined : ℕ) → (result : Option ℕ) → MemoryView → RunEnd → Type 0
TellOutEnd nodes v undefined result behind (Returned returned after) =
    (is_true nodes undefined v ≡ false) × IsMemoryAt nodes behind v after × TellsResult nodes v result returned
TellOutEnd nodes v undefined result behind (Stuck reason line) = is_true nodes undefined v ≡ true
TellOutEnd nodes v undefined result behind Lost = ⊥

-- the run from these numbers and this memory has an end, and each end of it is told
pub record TellOut (m : ModuleView) (nodes : List Node) (v : Reading) (function : ℕ) (memory : Memory) (args : List ℕ) (undefined : ℕ)
    (result : Option ℕ) (behind : MemoryView) : Type 0 where
  pub ends : (end : RunEnd) × IsEndOfRun m function args memory end
  pub end : (end : RunEnd) → IsEndOfRun m function args memory end → TellOutEnd nodes v undefined result behind end

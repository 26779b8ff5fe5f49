-- What a function is executed with to its result, and what the terms tell of the end of its run.
use Rattle.std.specs.Prelude.{◌≡◌, ◌<◌, ◌≤◌, ℕ, true, false, Option, Some, None, is_some, List, map, length, slice_get}
use Rattle.std.specs.List.{All}
use Rattle.hk_term.specs.Shape.{width}
use Rattle.hk_term.specs.Meaning.{Reading, value}
use Rattle.hk_term.specs.declared.node.Node.{Node}
use Rattle.ir_ast.specs.Plain.{Ty, nothing, integer}
use Rattle.ir_ast.specs.Program.{FunctionView, ModuleView}
use Rattle.ir_type.specs.Whole.{meant}
use Rattle.ir_layout.specs.declared.object.Object.{Object}
use Rattle.ir_kernel.specs.declared.ends.RunEnd.{RunEnd}
use Rattle.ir_kernel.specs.declared.ends.RunEnd.TheVariants.{Returned, Stuck, Lost}
use Rattle.ir_kernel.specs.Ends.{IsEndOfRun}
use Rattle.hk_symvalue.specs.Meaning.{IsWord, is_true}
use Rattle.hk_symmem.specs.Guarded.{MemoryView, memory_at}

-- ---- what is executed

-- an integer of the width, or void where that is 0
abbrev pub Gives : Ty → ℕ → Type 0
Gives nothing w = w ≡ 0
Gives (integer v) w = v ≡ w
Gives _ w = ⊥

-- the function at the place has a body, and takes and gives integers of these widths
pub record Takes (m : ModuleView) (function : ℕ) (widths : List ℕ) (result : ℕ) : Type 0 where
  pub name : List ℕ
  pub called : FunctionView
  pub there : slice_get m.functions function ≡ Some (name, called)
  pub body : is_some called.body ≡ true
  pub parameters : map (λ p. meant m.types p.0) called.parameters ≡ map integer widths
  pub gives : Gives (meant m.types called.result) result

-- the widths of terms
abbrev pub widths_of : List Node → List ℕ → List ℕ
widths_of nodes terms = map (λ a. width nodes a) terms

-- ---- objects

-- the initial bytes of objects fill them
pub record AreFilled (objects : List Object) : Type 0 where
  pub sizes : map (λ o. length o.bytes) objects ≡ map (λ o. o.size) objects
  pub bytes : All (λ o. All (λ b. b < 256) o) (map (λ o. o.bytes) objects)

-- each object has as many bytes as its size
pub record HoldsObjects (objects : List Object) (memory : List (List ℕ)) : Type 0 where
  pub sizes : map (λ o. length o) memory ≡ map (λ o. o.size) objects
  pub bytes : All (λ o. All (λ b. b < 256) o) memory

-- ---- what comes of it

-- a term of the width; none where that is 0
abbrev pub IsResultTerm : List Node → ℕ → Option ℕ → Type 0
IsResultTerm nodes w None = w ≡ 0
IsResultTerm nodes w (Some r) = (1 ≤ w) × IsWord nodes w r

-- the term of the result is the returned number
abbrev pub TellsResult : List Node → Reading → Option ℕ → Option ℕ → Type 0
TellsResult nodes v None returned = Unit {0}
TellsResult nodes v (Some r) (Some n) = value nodes r v ≡ n
TellsResult nodes v (Some r) None = ⊥

-- what the terms tell of the end of a run, which is not lost
abbrev pub TellsEnd : List Node → Reading → (undefined : ℕ) → (result : Option ℕ) → MemoryView → RunEnd → Type 0
TellsEnd nodes v undefined result memory (Returned returned after) =
    (is_true nodes undefined v ≡ false) × (memory_at nodes memory v ≡ after) × TellsResult nodes v result returned
TellsEnd nodes v undefined result memory (Stuck reason line) = is_true nodes undefined v ≡ true
TellsEnd nodes v undefined result memory Lost = ⊥

-- the run from these numbers and this memory has an end
abbrev pub HasEnd : ModuleView → ℕ → List ℕ → List (List ℕ) → Type 0
HasEnd m function arguments memory = (end : RunEnd) × IsEndOfRun m function arguments memory end

-- When a list of terms holds all terms of a memory or a state, and when what is read depends on no variable of a formula.
use Rattle.std.specs.Prelude.{◌≡◌, ℕ, ◌+◌, ◌-◌, ◌^◌, ◌<◌, ◌≤◌, Option, Some, None, List, [], ◌∷◌, map, length, All, slice_index_or}
use Rattle.hk_term.specs.Shape.{width}
use Rattle.hk_term.specs.Meaning.{Reading}
use Rattle.hk_term.specs.declared.node.Node.{Node}
use Rattle.hk_symmem.specs.Guarded.{MemoryView, memory_at, IsOver}
use Rattle.spec_tree.specs.Plain.{Key, Spec}
use Rattle.spec_tree.specs.Sorted.{FieldSort, no_field, field_sorts, over_kernel, with_locals}
use Rattle.spec_tree.specs.Shapes.{IsMemory}
use Rattle.spec_tree.specs.Meaning.{in_memory, with_values}
use Rattle.hk_symexpr.specs.Sources.{Agrees}
use Rattle.hk_symexpr.specs.Naming.{IsNamed, name_values}
use Rattle.hk_symexpr.specs.declared.names.NamedTerm.{NamedTerm}
use Rattle.hk_symspec.specs.declared.write.EntryWrite.{EntryWrite}
use Rattle.hk_symspec.specs.States.{StateView, kernel_at, state_at}

-- the first variable of a formula's quantifiers, and of those in the equations of fields that a formula reads; arguments have ids below
abbrev pub formula_base : ℕ
formula_base = 2 ^ 16

abbrev pub entry_base : ℕ
entry_base = 2 ^ 24

abbrev pub last_base : ℕ
last_base = 2 ^ 32 - 1

-- the memory depends on no variable from an id on
abbrev pub IsSteadyMemory : ℕ → List Node → Option MemoryView → Reading → Type 0
IsSteadyMemory limit nodes memory v = (u : Reading) → Agrees limit v u → kernel_at nodes memory u ≡ kernel_at nodes memory v

-- the memory and the state depend on no variable from an id on
pub record IsSteady (limit : ℕ) (s : Spec) (nodes : List Node) (a : StateView) (v : Reading) : Type 0 where
  pub memory : IsSteadyMemory limit nodes a.memory v
  pub state : (u : Reading) → Agrees limit v u → state_at s nodes a u ≡ state_at s nodes a v

-- the list holds the terms of a memory of the specification's objects
pub record IsKernelOver (s : Spec) (nodes : List Node) (m : MemoryView) : Type 0 where
  pub over : IsOver nodes m
  pub whole : (v : Reading) → IsMemory s.objects (memory_at nodes m v)

-- and those of the equations' local names
pub record IsEquated (s : Spec) (nodes : List Node) (m : MemoryView) (locals : List NamedTerm) : Type 0 where
  pub kernel : IsKernelOver s nodes m
  pub named : All (IsNamed nodes) locals
  pub widths : map (λ a. a.width) locals ≡ (with_locals (over_kernel s) s.equation_locals).locals
  pub values : (v : Reading) → IsSteadyMemory entry_base nodes (Some m) v →
      name_values nodes locals v ≡ (with_values (over_kernel s) (in_memory (memory_at nodes m v)) s.equation_locals).locals

abbrev pub IsBaseOver : Spec → List Node → Option MemoryView → List NamedTerm → ℕ → Type 0
IsBaseOver s nodes (Some m) locals first = IsEquated s nodes m locals
IsBaseOver s nodes None locals first = first + length s.fields ≤ 2 ^ 32

-- one term for each key, of its width
abbrev pub AreKeyTerms : List Node → List Key → List ℕ → Type 0
AreKeyTerms nodes [] index = index ≡ []
AreKeyTerms nodes (k ∷ ks) [] = ⊥
AreKeyTerms nodes (k ∷ ks) (i ∷ is) = (i < length nodes) × (width nodes i ≡ k.width) × AreKeyTerms nodes ks is

-- the terms of a write stand in the list, at their widths
pub record IsWriteOver (fields : List FieldSort) (nodes : List Node) (w : EntryWrite) : Type 0 where
  pub field : w.field < length fields
  pub index : AreKeyTerms nodes (slice_index_or fields w.field no_field).keys w.index
  pub guard : w.guard < length nodes
  pub truth : width nodes w.guard ≡ 1
  pub value : w.value < length nodes
  pub number : width nodes w.value ≡ (slice_index_or fields w.field no_field).width

-- the list holds all terms of the state
pub record IsStateOver (s : Spec) (nodes : List Node) (a : StateView) : Type 0 where
  pub base : IsBaseOver s nodes a.memory a.locals a.first
  pub writes : All (IsWriteOver (field_sorts s) nodes) a.writes

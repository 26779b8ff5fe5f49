-- Abstract states under a reading: guarded writes over the abstraction of a memory, or over the entries of arrays.
use Rattle.std.specs.Prelude.{ℕ, ◌+◌, ◌%◌, ◌^◌, if◌then◌else◌, nat_eq, Option, Some, None, List, [], ◌∷◌, map, slice_index_or}
use Rattle.std.specs.List.{range_with_len}
use Rattle.hk_term.specs.Meaning.{Reading, value}
use Rattle.hk_term.specs.declared.node.Node.{Node}
use Rattle.hk_symmem.specs.Guarded.{MemoryView, memory_at}
use Rattle.spec_tree.specs.Plain.{Spec}
use Rattle.spec_tree.specs.Sorted.{FieldSort, no_field, key_sizes, product, field_sorts}
use Rattle.spec_tree.specs.Value.{place_behind}
use Rattle.spec_tree.specs.Meaning.{State, Memory, abstraction, entry_set}
use Rattle.hk_symexpr.specs.declared.names.NamedTerm.{NamedTerm}
use Rattle.hk_symspec.specs.declared.write.EntryWrite.{EntryWrite}

-- what a state stands on: a memory with the terms of the equations' local names, or arrays from a number on; and the writes, the
-- earliest first
pub record StateView : Type 0 where
  pub memory : Option MemoryView
  pub locals : List NamedTerm
  pub first : ℕ
  pub writes : List EntryWrite

-- entry k of a field is entry k of its array, modulo 2 to the field's width
abbrev pub array_entries : FieldSort → (ℕ → ℕ) → List ℕ
array_entries f array = map (λ k. array k % 2 ^ f.width) (range_with_len 0 (product (key_sizes f.keys)))

-- the fields in order have the arrays from a number on
abbrev pub free_state : ℕ → List FieldSort → (ℕ → ℕ → ℕ) → State
free_state first [] entry = []
free_state first (f ∷ fs) entry = array_entries f (entry first) ∷ free_state (first + 1) fs entry

-- the kernel's memory under a reading, where there is one
abbrev pub kernel_at : List Node → Option MemoryView → Reading → Memory
kernel_at nodes (Some m) v = memory_at nodes m v
kernel_at nodes None v = []

-- the state before its writes
abbrev pub base_at : Spec → List Node → Option MemoryView → ℕ → Reading → State
base_at s nodes (Some m) first v = abstraction s (memory_at nodes m v)
base_at s nodes None first v = free_state first (field_sorts s) v.entry

abbrev pub numbers_at : List Node → List ℕ → Reading → List ℕ
numbers_at nodes terms v = map (λ k. value nodes k v) terms

-- the state behind a write: it writes where its guard is true
abbrev pub after_write : List FieldSort → List Node → Reading → EntryWrite → State → State
after_write fields nodes v w state =
    if nat_eq (value nodes w.guard v) 1
    then entry_set state w.field (place_behind 0 (slice_index_or fields w.field no_field).keys (numbers_at nodes w.index v)) (value nodes w.value v)
    else state

abbrev pub after_writes : List FieldSort → List Node → Reading → List EntryWrite → State → State
after_writes fields nodes v [] state = state
after_writes fields nodes v (w ∷ ws) state = after_writes fields nodes v ws (after_write fields nodes v w state)

-- the state under a reading
abbrev pub state_at : Spec → List Node → StateView → Reading → State
state_at s nodes a v = after_writes (field_sorts s) nodes v a.writes (base_at s nodes a.memory a.first v)

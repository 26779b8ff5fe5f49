-- A longer list of terms holds a state as well, and it is the same state.
use Rattle.std.specs.Prelude.{◌≡◌, ◌<◌, ◌≤◌, ℕ, All, if◌then◌else◌, nat_eq, Option, Some, None, List, [], ◌∷◌, length, slice_index_or}
use Rattle.std.proofs.Common.{arith, ap, sym, ◌∙◌, refl}
use Rattle.std.proofs.lemmas.List.Elements.{All-head, All-tail}
use Rattle.hk_term.specs.Shape.{width}
use Rattle.hk_term.specs.Meaning.{Reading, value}
use Rattle.hk_term.specs.declared.node.Node.{Node}
use Rattle.hk_symmem.specs.Guarded.{MemoryView}
use Rattle.spec_tree.specs.Plain.{Key, Spec}
use Rattle.spec_tree.specs.Sorted.{FieldSort, no_field, field_sorts, over_kernel}
use Rattle.spec_tree.specs.Value.{place_behind}
use Rattle.spec_tree.specs.Meaning.{State, abstraction, entry_set, in_memory, with_values}
use Rattle.hk_symexpr.specs.Sources.{Keeps}
use Rattle.hk_symexpr.specs.Naming.{IsNamed, name_values}
use Rattle.hk_symexpr.specs.declared.names.NamedTerm.{NamedTerm}
use Rattle.hk_symspec.specs.declared.write.EntryWrite.{EntryWrite}
use Rattle.hk_symspec.specs.States.{StateView, after_write, after_writes, base_at, kernel_at, numbers_at, state_at}
use Rattle.hk_symspec.specs.Standing.{AreKeyTerms, IsBaseOver, IsEquated, IsStateOver, IsWriteOver}
use Rattle.hk_symspec.specs.KernelLaws.{kernel_kept, memory_kept}

abbrev pub KeepsValues : List Node → List Node → Type 0
KeepsValues old new = (k : ℕ) → k < length old → (v : Reading) → value new k v ≡ value old k v

pub names_kept : (old new : List Node) (names : List NamedTerm) (u : Reading) → KeepsValues old new → All (IsNamed old) names → name_values new names u ≡ name_values old names u
names_kept old new [] u keeps named = refl
names_kept old new (n ∷ names) u keeps named =
    λ i. keeps n.term (All-head (IsNamed old) n names named).within u i ∷ names_kept old new names u keeps (All-tail (IsNamed old) n names named) i

pub named_kept : (old new : List Node) (names : List NamedTerm) → length old ≤ length new → ((k : ℕ) → k < length old → width new k ≡ width old k)
    → All (IsNamed old) names → All (IsNamed new) names
named_kept old new names longer keeps named k d l =
    let n = named k d l in record { within = omega (arith, n.within, longer); width_is = keeps (slice_index_or names k d).term n.within ∙ n.width_is }

pub numbers_kept : (old new : List Node) (keys : List Key) (index : List ℕ) (v : Reading) → KeepsValues old new → AreKeyTerms old keys index → numbers_at new index v ≡ numbers_at old index v
numbers_kept old new [] index v keeps h = ap (λ l. numbers_at new l v) h ∙ ap (λ l. numbers_at old l v) (sym h)
numbers_kept old new (k ∷ ks) [] v keeps h = absurd h
numbers_kept old new (k ∷ ks) (i ∷ is) v keeps h = λ n. keeps i h.0 v n ∷ numbers_kept old new ks is v keeps h.2 n

key_terms_kept : (old new : List Node) (keys : List Key) (index : List ℕ) → length old ≤ length new → ((k : ℕ) → k < length old → width new k ≡ width old k)
    → AreKeyTerms old keys index → AreKeyTerms new keys index
key_terms_kept old new [] index longer keeps h = h
key_terms_kept old new (k ∷ ks) [] longer keeps h = h
key_terms_kept old new (k ∷ ks) (i ∷ is) longer keeps h = (omega (arith, h.0, longer), keeps i h.0 ∙ h.1, key_terms_kept old new ks is longer keeps h.2)

pub write_kept : (fields : List FieldSort) (old new : List Node) (w : EntryWrite) → length old ≤ length new → ((k : ℕ) → k < length old → width new k ≡ width old k)
    → IsWriteOver fields old w → IsWriteOver fields new w
write_kept fields old new w longer keeps o = record {
  field = o.field;
  index = key_terms_kept old new (slice_index_or fields w.field no_field).keys w.index longer keeps o.index;
  guard = omega (arith, o.guard, longer);
  truth = keeps w.guard o.guard ∙ o.truth;
  value = omega (arith, o.value, longer);
  number = keeps w.value o.value ∙ o.number;
}

pub writes_over : (fields : List FieldSort) (old new : List Node) (ws : List EntryWrite) → length old ≤ length new → ((k : ℕ) → k < length old → width new k ≡ width old k)
    → All (IsWriteOver fields old) ws → All (IsWriteOver fields new) ws
writes_over fields old new ws longer keeps over = λ k d l. write_kept fields old new (slice_index_or ws k d) longer keeps (over k d l)

pub after_write_kept : (fields : List FieldSort) (old new : List Node) (v : Reading) (w : EntryWrite) (state : State) → KeepsValues old new → IsWriteOver fields old w
    → after_write fields new v w state ≡ after_write fields old v w state
after_write_kept fields old new v w state keeps o =
    λ n. if nat_eq (keeps w.guard o.guard v n) 1
    then entry_set state w.field (place_behind 0 (slice_index_or fields w.field no_field).keys (numbers_kept old new (slice_index_or fields w.field no_field).keys w.index v keeps o.index n)) (keeps w.value o.value v n)
    else state

pub after_writes_kept : (fields : List FieldSort) (old new : List Node) (v : Reading) (ws : List EntryWrite) (state : State) → KeepsValues old new → All (IsWriteOver fields old) ws
    → after_writes fields new v ws state ≡ after_writes fields old v ws state
after_writes_kept fields old new v [] state keeps o = refl
after_writes_kept fields old new v (w ∷ ws) state keeps o =
    after_writes_kept fields old new v ws (after_write fields new v w state) keeps (All-tail (IsWriteOver fields old) w ws o)
    ∙ ap (after_writes fields old v ws) (after_write_kept fields old new v w state keeps (All-head (IsWriteOver fields old) w ws o))

-- ---- states

pub equated_kept : (s : Spec) (m : MemoryView) (locals : List NamedTerm) (old new : List Node) → IsEquated s old m locals → Keeps old new → IsEquated s new m locals
equated_kept s m locals old new o k = record {
  kernel = kernel_kept s m old new o.kernel k;
  named = named_kept old new locals k.longer k.widths o.named;
  widths = o.widths;
  values = λ v still.
      names_kept old new locals v k.values o.named
      ∙ o.values v (λ u a. sym (memory_kept s m old new o.kernel k u) ∙ still u a ∙ memory_kept s m old new o.kernel k v)
      ∙ ap (λ x. (with_values (over_kernel s) (in_memory x) s.equation_locals).locals) (sym (memory_kept s m old new o.kernel k v));
}

pub base_over_kept : (s : Spec) (m : Option MemoryView) (locals : List NamedTerm) (first : ℕ) (old new : List Node) → IsBaseOver s old m locals first → Keeps old new → IsBaseOver s new m locals first
base_over_kept s (Some m) locals first old new o k = equated_kept s m locals old new o k
base_over_kept s None locals first old new o k = o

pub kernel_at_kept : (s : Spec) (m : Option MemoryView) (locals : List NamedTerm) (first : ℕ) (old new : List Node) (v : Reading) → IsBaseOver s old m locals first → Keeps old new → kernel_at new m v ≡ kernel_at old m v
kernel_at_kept s (Some m) locals first old new v o k = memory_kept s m old new o.kernel k v
kernel_at_kept s None locals first old new v o k = refl

base_at_kept : (s : Spec) (m : Option MemoryView) (locals : List NamedTerm) (first : ℕ) (old new : List Node) (v : Reading) → IsBaseOver s old m locals first → Keeps old new → base_at s new m first v ≡ base_at s old m first v
base_at_kept s (Some m) locals first old new v o k = ap (abstraction s) (memory_kept s m old new o.kernel k v)
base_at_kept s None locals first old new v o k = refl

pub state_over_kept : (s : Spec) (a : StateView) (old new : List Node) → IsStateOver s old a → Keeps old new → IsStateOver s new a
state_over_kept s a old new o k = record {
  base = base_over_kept s a.memory a.locals a.first old new o.base k;
  writes = writes_over (field_sorts s) old new a.writes k.longer k.widths o.writes;
}

pub state_kept : (s : Spec) (a : StateView) (old new : List Node) (v : Reading) → IsStateOver s old a → Keeps old new → state_at s new a v ≡ state_at s old a v
state_kept s a old new v o k =
    after_writes_kept (field_sorts s) old new v a.writes (base_at s new a.memory a.first v) k.values o.writes
    ∙ ap (after_writes (field_sorts s) old v a.writes) (base_at_kept s a.memory a.locals a.first old new v o.base k)

-- what is read of a state, with some writes more
pub record IsReadOver (s : Spec) (nodes : List Node) (a : StateView) (writes : List EntryWrite) : Type 0 where
  pub state : IsStateOver s nodes a
  pub later : All (IsWriteOver (field_sorts s) nodes) writes

pub read_over_kept : (s : Spec) (a : StateView) (writes : List EntryWrite) (old new : List Node) → IsReadOver s old a writes → Keeps old new → IsReadOver s new a writes
read_over_kept s a writes old new o k = record { state = state_over_kept s a old new o.state k; later = writes_over (field_sorts s) old new writes k.longer k.widths o.later }

pub later_kept : (s : Spec) (a : StateView) (writes : List EntryWrite) (old new : List Node) (v : Reading) → IsReadOver s old a writes → Keeps old new
    → after_writes (field_sorts s) new v writes (state_at s new a v) ≡ after_writes (field_sorts s) old v writes (state_at s old a v)
later_kept s a writes old new v o k =
    after_writes_kept (field_sorts s) old new v writes (state_at s new a v) k.values o.later
    ∙ ap (after_writes (field_sorts s) old v writes) (state_kept s a old new v o.state k)

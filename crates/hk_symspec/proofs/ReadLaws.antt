-- Reads of states.
use Rattle.std.proofs.Common.{◌≡◌, ℕ, Bool, true, false, Option, Some, None, List, [], get_or, arith, ap, sym, ◌∙◌, subst, refl}
use Rattle.std.specs.Prelude.{All, if◌then◌else◌, nat_eq, slice_index, slice_index_or}
use Rattle.std.proofs.lemmas.List.{get_or-map}
use Rattle.hk_term.specs.Operations.{bit}
use Rattle.hk_term.specs.Meaning.{Reading, value}
use Rattle.hk_term.specs.declared.node.Node.{Node}
use Rattle.hk_symmem.specs.Guarded.{MemoryView, memory_at}
use Rattle.spec_tree.specs.Plain.{Key, Spec}
use Rattle.spec_tree.specs.Sorted.{FieldSort, IsWellSorted, no_field, field_sorts}
use Rattle.spec_tree.specs.Value.{entry_at, place_behind}
use Rattle.spec_tree.specs.Meaning.{State}
use Rattle.spec_tree.proofs.Keeping.{abstraction_fits}
use Rattle.hk_symexpr.specs.Naming.{AreIndexTerms, AreLimited, index_values}
use Rattle.hk_symexpr.specs.declared.names.NamedTerm.{NamedTerm}
use Rattle.hk_symexpr.specs.declared.names.Limit.{Limit}
use Rattle.hk_symspec.specs.declared.write.EntryWrite.{EntryWrite}
use Rattle.hk_symspec.specs.States.{after_writes, base_at}
use Rattle.hk_symspec.specs.Standing.{IsBaseOver, IsWriteOver}
use Rattle.hk_symspec.specs.Ranges.{IsEntry, IsLong, in_range}
use Rattle.hk_symspec.specs.KeptLaws.{KeepsValues, after_writes_kept}
use Rattle.hk_symspec.proofs.PlaceLaws.{placed, no_place}
use Rattle.hk_symspec.proofs.OverlayLaws.{indices_kept, writes_long}
use Rattle.hk_symspec.proofs.ArrayLaws.{free_long, state_long}

pub limits_kept : (old new : List Node) (index : List Limit) (v : Reading) → index_values new index v ≡ index_values old index v → AreLimited old index v → AreLimited new index v
limits_kept old new index v same limited k d l =
    let f : Limit → ℕ = λ i. value new i.term v in
    let g : Limit → ℕ = λ i. value old i.term v in
    let e : f (get_or index k d) ≡ g (get_or index k d) = sym (get_or-map f index k d 0 l) ∙ ap (λ x. get_or x k 0) same ∙ get_or-map g index k d 0 l in
    omega (arith, e, limited k d l)

-- ---- 0 where an index is not below its size

pub ranged_value : (keys : List Key) (is row : List ℕ) (test made found nought : ℕ) → test ≡ bit (in_range keys is) → nought ≡ 0 → made ≡ (if nat_eq test 1 then found else nought)
    → ((p : ℕ) → place_behind 0 keys is ≡ Some p → found ≡ slice_index row p) → made ≡ entry_at row (place_behind 0 keys is)
ranged_value keys is row test made found nought te ze me h = by_range (in_range keys is) refl
  where
    by_range : (b : Bool) → in_range keys is ≡ b → made ≡ entry_at row (place_behind 0 keys is)
    by_range true e =
        let p = placed 0 keys is e in
        let one : test ≡ 1 = te ∙ ap bit e in
        me ∙ ap (λ x. if nat_eq x 1 then found else nought) one ∙ h p.place p.found ∙ ap (entry_at row) (sym p.found)
    by_range false e =
        let none : test ≡ 0 = te ∙ ap bit e in
        me ∙ ap (λ x. if nat_eq x 1 then found else nought) none ∙ ze ∙ ap (entry_at row) (sym (no_place 0 keys is e))

-- ---- the base, then the earlier writes, then the later ones

pub base_long : (s : Spec) (nodes : List Node) (m : Option MemoryView) (locals : List NamedTerm) (first : ℕ) (v : Reading) → IsWellSorted s → IsBaseOver s nodes m locals first
    → IsLong (field_sorts s) (base_at s nodes m first v)
base_long s nodes (Some m) locals first v w o = state_long (field_sorts s) (base_at s nodes (Some m) first v) (abstraction_fits s w (memory_at nodes m v) (o.kernel.whole v))
base_long s nodes None locals first v w o = free_long (field_sorts s) first v.entry

pub read_value : (fields : List FieldSort) (t0 t1 t2 t3 : List Node) (v : Reading) (field : ℕ) (index : List Limit) (ws later : List EntryWrite) (base : State) (n1 n2 n3 n4 : ℕ)
    → KeepsValues t0 t1 → KeepsValues t0 t2 → KeepsValues t0 t3 → AreIndexTerms t0 (slice_index_or fields field no_field).keys index
    → All (IsWriteOver fields t0) ws → All (IsWriteOver fields t0) later → IsLong fields base
    → IsEntry fields field (index_values t0 index v) base n1
    → ((st : State) → IsLong fields st → IsEntry fields field (index_values t1 index v) st n1 → IsEntry fields field (index_values t1 index v) (after_writes fields t1 v ws st) n2)
    → ((st : State) → IsLong fields st → IsEntry fields field (index_values t2 index v) st n2 → IsEntry fields field (index_values t2 index v) (after_writes fields t2 v later st) n3)
    → ((st : State) → IsEntry fields field (index_values t3 index v) st n3
    → n4 ≡ entry_at (slice_index_or st field []) (place_behind 0 (slice_index_or fields field no_field).keys (index_values t3 index v)))
    → n4 ≡ entry_at (slice_index_or (after_writes fields t0 v later (after_writes fields t0 v ws base)) field []) (place_behind 0 (slice_index_or fields field no_field).keys (index_values t0 index v))
read_value fields t0 t1 t2 t3 v field index ws later base n1 n2 n3 n4 k1 k2 k3 at over over' long first second third fourth =
    fourth last (P last n3 (sym e3) third') ∙ ap (λ is. entry_at (slice_index_or last field []) (place_behind 0 keys is)) e3
  where
    keys : List Key
    keys = (slice_index_or fields field no_field).keys

    e1 : index_values t1 index v ≡ index_values t0 index v
    e1 = indices_kept t0 t1 keys index v k1 at

    e2 : index_values t2 index v ≡ index_values t0 index v
    e2 = indices_kept t0 t2 keys index v k2 at

    e3 : index_values t3 index v ≡ index_values t0 index v
    e3 = indices_kept t0 t3 keys index v k3 at

    middle : State
    middle = after_writes fields t0 v ws base

    last : State
    last = after_writes fields t0 v later middle

    P : (st : State) (n : ℕ) {is js : List ℕ} → is ≡ js → IsEntry fields field is st n → IsEntry fields field js st n
    P st n {is} {js} e h = subst (λ x. IsEntry fields field x st n) e h

    second' : IsEntry fields field (index_values t0 index v) middle n2
    second' = subst (λ st. IsEntry fields field (index_values t0 index v) st n2) (after_writes_kept fields t0 t1 v ws base k1 over) (P (after_writes fields t1 v ws base) n2 e1 (second base long (P base n1 (sym e1) first)))

    third' : IsEntry fields field (index_values t0 index v) last n3
    third' = subst (λ st. IsEntry fields field (index_values t0 index v) st n3) (after_writes_kept fields t0 t2 v later middle k2 over')
        (P (after_writes fields t2 v later middle) n3 e2 (third middle (writes_long fields t0 v ws base long) (P middle n2 (sym e2) second')))

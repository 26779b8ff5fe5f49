-- The fields of a specification have the sorts of those that are declared, in their order.
use Rattle.std.proofs.Common.{◌≡◌, ℕ, zero, suc, ◌⊎◌, inl, inr, Bool, true, false, Option, Some, None, List, [], ◌∷◌, ◌++◌, length, map, slice_get, refl, sym, ap, subst, ◌∙◌, append_assoc, append-nil, arith}
use Rattle.std.specs.List.{AllByRecursion}
use Rattle.spec_ast.specs.Raw.{Tree, Item, sort_line, constant_line, hook_line, class_line, field_line, def_line, var_line, let_line, copy_line, write_line, return_line, end_line}
use Rattle.spec_tree.specs.Plain as tree
use Rattle.spec_tree.specs.Plain.{Field}
use Rattle.spec_tree.specs.Sorted.{FieldSort, IsFieldSort, sort_of}
use Rattle.spec_names.specs.Kernel.{Name}
use Rattle.spec_read.specs.Places.{Function, equivalence, invariant, property, handler}
use Rattle.spec_scope.specs.declared.meaning.Kind.TheVariants.{Truth}
use Rattle.spec_scope.specs.Scope.{Declared, Scope, sort_at}
use Rattle.spec_scope.specs.Taking.{one, take}
use Rattle.spec_lines.specs.Behind.{Head, Here, kind_of, is_handler, behind}
use Rattle.spec_lines.specs.Faults.{Values, values_of}
use Rattle.spec_lines.specs.Whole.{Made, equivalence_made, with_invariant, with_property, return_made, field_with, field_made, fields_from, result_made, head_made, end_made, ended, made_behind}
use Rattle.spec_sound.proofs.Parts.{chain_is, one_is, some_is, none_some}
use Rattle.spec_sound.proofs.Untouched.{same_let, same_write, same_def, same_all}

-- ---- sorts

abbrev pub HaveSorts : List Declared → List Field → Type 0
HaveSorts [] [] = Unit {0}
HaveSorts [] (f ∷ fs) = ⊥
HaveSorts (d ∷ ds) [] = ⊥
HaveSorts (d ∷ ds) (f ∷ fs) = (d.sort ≡ Some (sort_of f)) × HaveSorts ds fs

pub their_sorts : (D : List Declared) (fs : List Field) (place : ℕ) (sort : FieldSort) → HaveSorts D fs → sort_at D place ≡ Some sort
    → slice_get (map sort_of fs) place ≡ Some sort
their_sorts [] fs place sort have is = absurd (none_some sort is)
their_sorts (d ∷ ds) [] place sort have is = absurd have
their_sorts (d ∷ ds) (f ∷ fs) zero sort have is = sym have.0 ∙ is
their_sorts (d ∷ ds) (f ∷ fs) (suc place) sort have is = their_sorts ds fs place sort have.1 is

pub within_limits : (D : List Declared) (fs : List Field) (place : ℕ) (sort : FieldSort) → HaveSorts D fs → AllByRecursion (λ f. IsFieldSort (sort_of f)) fs
    → sort_at D place ≡ Some sort → IsFieldSort sort
within_limits [] fs place sort have all is = absurd (none_some sort is)
within_limits (d ∷ ds) [] place sort have all is = absurd have
within_limits (d ∷ ds) (f ∷ fs) zero sort have all is = subst IsFieldSort (some_is (sort_of f) sort (sym have.0 ∙ is)) all.0
within_limits (d ∷ ds) (f ∷ fs) (suc place) sort have all is = within_limits ds fs place sort have.1 all.1 is

field_sorted : (d : Declared) (o : Option tree.Tree) (f : Field) → field_made d o ≡ Some f → d.sort ≡ Some (sort_of f)
field_sorted d None f made = absurd (none_some f made)
field_sorted d (Some y) f made =
    let p = one_is (field_with d y) d.sort f made in
    p.1 ∙ ap (λ (g : Field). Some (sort_of g)) p.2

-- these fields, and then one of each sort
abbrev After : List Field → List Declared → List Field → Type 0
After fs D gs = (hs : List Field) × (gs ≡ fs ++ hs) × HaveSorts D hs

after : (fs gs : List Field) (f : Field) (d : Declared) (ds : List Declared) → d.sort ≡ Some (sort_of f) → After (fs ++ f ∷ []) ds gs → After fs (d ∷ ds) gs
after fs gs f d ds is rest = (f ∷ rest.0, rest.1 ∙ joined fs, (is, rest.2)) where
  joined : (xs : List Field) → (xs ++ f ∷ []) ++ rest.0 ≡ xs ++ (f ∷ rest.0)
  joined xs = append_assoc xs (f ∷ []) rest.0

fields_after : (fs gs : List Field) (D : List Declared) (values : Values) → fields_from fs D values ≡ Some gs → After fs D gs
fields_after fs gs [] values made = ([], sym (some_is fs gs made) ∙ sym (append-nil fs), tt)
fields_after fs gs (d ∷ ds) [] made = absurd (none_some gs made)
fields_after fs gs (d ∷ ds) (y ∷ values) made =
    let p = chain_is (field_made d y) (λ f. fields_from (fs ++ f ∷ []) ds values) gs made in
    after fs gs p.0 d ds (field_sorted d y p.0 p.1) (fields_after (fs ++ p.0 ∷ []) gs ds values p.2)

-- ---- the fields that lines make

-- none so far, or those that are declared with some values
abbrev pub FieldsFrom : List Declared → Option (List Field) → Type 0
FieldsFrom D o = (o ≡ Some []) ⊎ ((values : Values) × (o ≡ fields_from [] D values))

pub fields_have_sorts : (D : List Declared) (fs : List Field) → FieldsFrom D (Some fs) → length fs ≡ length D → HaveSorts D fs
fields_have_sorts [] fs (inl e) counted = subst (HaveSorts []) (sym (some_is fs [] e)) tt
fields_have_sorts (d ∷ ds) fs (inl e) counted =
    let empty : length fs ≡ 0 = ap length (some_is fs [] e) in
    let more : length fs ≡ suc (length ds) = counted in
    absurd (omega (arith, empty, more))
fields_have_sorts D fs (inr p) counted = let a = fields_after [] fs D p.0 (sym p.1) in subst (HaveSorts D) (sym a.1) a.2

-- ---- lines

abbrev view : Made → Option (List Field)
view m = m.fields

ignores : (m : Made) (locals : List tree.Tree) (lines : List tree.Line) → view m ≡ view (record m { locals = locals; lines = lines })
ignores m locals lines = refl

same_end : (h : Here) (m : Made) (c : Name) (valid : tree.Tree) (result : Option tree.Tree) (o : Option Head) → (end_made h m c valid result o).fields ≡ m.fields
same_end h m c valid result None = refl
same_end h m c valid result (Some head) = by head.place (is_handler head.kind) refl where
  by : (place : Option ℕ) (b : Bool) → is_handler head.kind ≡ b → (head_made h m c valid result head place).fields ≡ m.fields
  by None b is = refl
  by (Some place) true is = rw is
  by (Some place) false is = rw is

from_same : (D : List Declared) (m n : Made) → m.fields ≡ n.fields → FieldsFrom D m.fields → FieldsFrom D n.fields
from_same D m n e p = subst (FieldsFrom D) e p

from_return : (kind : Option Function) (s : Scope) (m n : Made) (e : Tree) → return_made kind s m e ≡ Some n → FieldsFrom s.fields m.fields → FieldsFrom s.fields n.fields
from_return (Some equivalence) s m n e made p =
    let q = one_is (equivalence_made s m) (values_of s e) n made in
    inr (q.0, sym (ap view q.2))
from_return (Some (invariant x)) s m n e made p = from_same s.fields m n (ap view (one_is (with_invariant x m) (take s [] Truth e) n made).2) p
from_return (Some (property x)) s m n e made p = from_same s.fields m n (ap view (one_is (with_property x m) (take s [] Truth e) n made).2) p
from_return (Some handler) s m n e made p = from_same s.fields m n (ap view (one_is (λ y. m) (take s [] Truth e) n made).2) p
from_return None s m n e made p = from_same s.fields m n (ap view (one_is (λ y. m) (take s [] Truth e) n made).2) p

from_end : (h : Here) (m n : Made) (e : Tree) (c : Name) (r : Option Tree) → ended h m e c r ≡ Some n → FieldsFrom h.scope.fields m.fields
    → FieldsFrom h.scope.fields n.fields
from_end h m n e c r made p =
    let a = chain_is (take h.scope [] Truth e) (λ valid. one (λ y. end_made h m c valid y h.head) (result_made h r)) n made in
    let b = one_is (λ y. end_made h m c a.0 y h.head) (result_made h r) n a.2 in
    from_same h.scope.fields m n (sym (same_end h m c a.0 b.0 h.head) ∙ ap view b.2) p

pub from_line : (h : Here) (m n : Made) (item : Item) → made_behind h m item ≡ Some n → FieldsFrom h.scope.fields m.fields → FieldsFrom h.scope.fields n.fields
from_line h m n (def_line x ps) made p = from_same h.scope.fields m n (same_def view ignores m n made) p
from_line h m n (let_line x e) made p = from_same h.scope.fields m n (same_let view ignores h m n e made) p
from_line h m n (write_line c f at e) made p = from_same h.scope.fields m n (same_write view ignores h.scope m n f at e made) p
from_line h m n (return_line e) made p = from_return (kind_of h.head) h.scope m n e made p
from_line h m n (end_line e c r) made p = from_end h m n e c r made p
from_line h m n item made p = from_same h.scope.fields m n (same_all view ignores m n made) p

pub same_fields : (h : Here) (line : ℕ) (item : Item) → (behind h line item).scope.fields ≡ h.scope.fields
same_fields h line (sort_line x s) = refl
same_fields h line (constant_line x c) = refl
same_fields h line (hook_line x) = refl
same_fields h line (class_line x) = refl
same_fields h line (field_line x keys s) = refl
same_fields h line (def_line x ps) = refl
same_fields h line (var_line x s) = refl
same_fields h line (let_line x e) = refl
same_fields h line (copy_line x o) = refl
same_fields h line (write_line c f at e) = refl
same_fields h line (return_line e) = refl
same_fields h line (end_line e c r) = refl

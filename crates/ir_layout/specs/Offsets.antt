-- Where the fields of structs stand, by what is kept of their types; and what a named type stands for, by the places of names.
use Rattle.std.specs.Prelude.{◌≡◌, ℕ, ◌+◌, ◌<◌, Bool, true, false, Option, Some, None, is_some, List, [], ◌∷◌, length, slice_get, slice_index, slice_index_or}
use Rattle.ir_ast.specs.Plain.{Ty, Tys, structure, packed, named, no_types, type_and}
use Rattle.ir_ast.specs.Program.{TypeView}
use Rattle.ir_ast.specs.Table.{place_of}
use Rattle.ir_type.specs.Whole.{Types, whole}
use Rattle.ir_type.specs.Cycles.{name_at}
use Rattle.ir_layout.specs.declared.fact.Fact.{Fact}
use Rattle.ir_layout.specs.Sizes.{up_to}
use Rattle.ir_layout.specs.Facts.{fact_by, no_fields, with_field, with_packed}

-- where the fields stand that are behind these
abbrev pub offsets_by : (List ℕ → Fact) → Fact → Tys → List ℕ
offsets_by look all no_types = []
offsets_by look all (type_and t ts) = up_to (fact_by look t).align all.size ∷ offsets_by look (with_field all (fact_by look t)) ts

abbrev pub packed_offsets_by : (List ℕ → Fact) → Fact → Tys → List ℕ
packed_offsets_by look all no_types = []
packed_offsets_by look all (type_and t ts) = all.size ∷ packed_offsets_by look (with_packed all (fact_by look t)) ts

abbrev pub offsets_of : (List ℕ → Fact) → Ty → List ℕ
offsets_of look (structure ts) = offsets_by look no_fields ts
offsets_of look (packed ts) = packed_offsets_by look no_fields ts
offsets_of look _ = []

abbrev pub count_in : Tys → ℕ
count_in no_types = 0
count_in (type_and t ts) = 1 + count_in ts

-- how many fields a struct has
abbrev pub fields_in : Ty → ℕ
fields_in (structure ts) = count_in ts
fields_in (packed ts) = count_in ts
fields_in _ = 0

-- ---- names that stand for names

abbrev pub is_named : Ty → Bool
is_named (named x) = true
is_named _ = false

abbrev pub root_of : List ℕ → ℕ → Option ℕ → ℕ
root_of roots node None = node
root_of roots node (Some place) = slice_index_or roots place node

-- the place of the type that this one stands for, where the names before it have theirs
abbrev pub root_by : {E : Type 0} → List (List ℕ × E) → List ℕ → ℕ → Ty → ℕ
root_by entries roots node (named x) = root_of roots node (place_of x entries)
root_by entries roots node _ = node

-- the type at the one place, where it stands for one, is the type at the other, which is spelled without a name in its place
abbrev pub IsRooted : Types → ℕ → ℕ → Type 0
IsRooted types p root =
    is_some (whole types (named (name_at types p))) ≡ true
    → (x : List ℕ) × (e : TypeView) × (slice_get types root ≡ Some (x, e)) × (whole types (named (name_at types p)) ≡ whole types e.over) × (is_named e.over ≡ false)

pub record AreRoots (types : Types) (roots : List ℕ) : Type 0 where
  pub count : length roots ≡ length types
  pub each : (p : ℕ) → p < length types → IsRooted types p (slice_index roots p)

pub record AreRooted (types : Types) (nodes : List ℕ) (k : ℕ) (roots : List ℕ) : Type 0 where
  pub count : length roots ≡ length types
  pub each : (i : ℕ) → i < k → i < length nodes → IsRooted types (slice_index nodes i) (slice_index roots (slice_index nodes i))

-- the names, each with the place of what it stands for
abbrev pub with_roots : {E : Type 0} → ℕ → List (List ℕ × E) → List ℕ → List (List ℕ × ℕ)
with_roots place [] roots = []
with_roots place (e ∷ es) roots = (e.0, slice_index roots place) ∷ with_roots (place + 1) es roots

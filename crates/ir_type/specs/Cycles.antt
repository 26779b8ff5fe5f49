-- Names of types that stand for none: a type that contains itself has no size (LLVM Language Reference, "Structure Type").
use Rattle.std.specs.Prelude.{◌≡◌, ℕ, ◌⊎◌, Bool, true, false, Option, Some, None, option_to_list, List, [], map, flat_map, slice_index_or}
use Rattle.std.specs.List.{Contains}
use Rattle.ir_ast.specs.Plain.{Ty, opaque}
use Rattle.ir_ast.specs.Program.{TypeView}
use Rattle.ir_ast.specs.Table.{names_of, place_of}
use Rattle.hk_graph.specs.Walks.{IsOnCycle}
use Rattle.ir_type.specs.Names.{entry_of, names_in}
use Rattle.ir_type.specs.Whole.{Types}

abbrev pub entry_names : Option TypeView → List (List ℕ)
entry_names None = []
entry_names (Some e) = names_in e.over

-- the type named x spells the name y
abbrev pub Spells : Types → List ℕ → List ℕ → Type 0
Spells types x y = Contains (entry_names (entry_of x types)) y

abbrev pub is_opaque : Ty → Bool
is_opaque opaque = true
is_opaque _ = false

-- no type has the name, or an opaque one
abbrev pub is_unusable : Option TypeView → Bool
is_unusable None = true
is_unusable (Some e) = is_opaque e.over

-- the name is unknown, one of an opaque type, or one of a type that contains itself
abbrev pub IsBadName : Types → List ℕ → Type 0
IsBadName types x = (is_unusable (entry_of x types) ≡ true) ⊎ IsOnCycle (Spells types) x

-- ---- names by their places

abbrev pub places_of : {E : Type 0} → List (List ℕ × E) → List (List ℕ) → List ℕ
places_of entries names = flat_map (λ x. option_to_list (place_of x entries)) names

-- the places of the names that a type spells, where they have one
abbrev pub places_in : Types → Ty → List ℕ
places_in types t = places_of types (names_in t)

-- the graph of the places: each named type leads to those that it spells
abbrev pub graph_of : Types → List (List ℕ)
graph_of types = map (λ e. places_in types e.1.over) types

-- the name of the entry at a place
abbrev pub name_at : Types → ℕ → List ℕ
name_at types p = slice_index_or (names_of types) p []

-- the flag says whether the type at the place contains itself
abbrev pub SaysCyclic : Types → Bool → ℕ → Type 0
SaysCyclic types true p = IsOnCycle (Spells types) (name_at types p)
SaysCyclic types false p = IsOnCycle (Spells types) (name_at types p) → ⊥

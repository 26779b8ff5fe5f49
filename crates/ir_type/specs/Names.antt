-- Entries by name, and the names and types that types, operands and initialisers spell.
use Rattle.std.specs.Prelude.{ℕ, Option, option_map, List, [], ◌∷◌, ◌++◌, flat_map, find, bytes_eq}
use Rattle.ir_ast.specs.Plain.{Ty, Tys, array, structure, packed, named, no_types, type_and, Val, Form, Indices, local, global, address, form, no_indices, index_and, Ini, Inis, array_init, structure_init, packed_init, no_inits, init_and}

-- the entry of a name
abbrev pub entry_of : {E : Type 0} → List ℕ → List (List ℕ × E) → Option E
entry_of name entries = option_map (λ e. e.1) (find (λ e. bytes_eq name e.0) entries)

-- a type and its parts, as they are spelled
abbrev mutual
  pub parts_of : Ty → List Ty
  parts_of (array n t) = array n t ∷ parts_of t
  parts_of (structure ts) = structure ts ∷ all_parts_of ts
  parts_of (packed ts) = packed ts ∷ all_parts_of ts
  parts_of t = t ∷ []

  pub all_parts_of : Tys → List Ty
  all_parts_of no_types = []
  all_parts_of (type_and t ts) = parts_of t ++ all_parts_of ts

-- the type names that a type spells
abbrev mutual
  pub names_in : Ty → List (List ℕ)
  names_in (named x) = x ∷ []
  names_in (array n t) = names_in t
  names_in (structure ts) = all_names_in ts
  names_in (packed ts) = all_names_in ts
  names_in _ = []

  pub all_names_in : Tys → List (List ℕ)
  all_names_in no_types = []
  all_names_in (type_and t ts) = names_in t ++ all_names_in ts

-- an operand, and for a constant address the operands within it
abbrev mutual
  pub leaves_of : Val → List Val
  leaves_of (address f) = form_leaves_of f
  leaves_of v = v ∷ []

  pub form_leaves_of : Form → List Val
  form_leaves_of (form flags over base indices) = leaves_of base ++ index_leaves_of indices

  pub index_leaves_of : Indices → List Val
  index_leaves_of no_indices = []
  index_leaves_of (index_and t v is) = leaves_of v ++ index_leaves_of is

abbrev pub local_name : Val → List (List ℕ)
local_name (local x) = x ∷ []
local_name _ = []

abbrev pub global_name : Val → List (List ℕ)
global_name (global x) = x ∷ []
global_name _ = []

-- the registers and the globals that an operand names
abbrev pub locals_in : Val → List (List ℕ)
locals_in v = flat_map local_name (leaves_of v)

abbrev pub globals_in : Val → List (List ℕ)
globals_in v = flat_map global_name (leaves_of v)

-- the types that an operand spells
abbrev mutual
  pub types_in : Val → List Ty
  types_in (address f) = form_types_in f
  types_in _ = []

  pub form_types_in : Form → List Ty
  form_types_in (form flags over base indices) = over ∷ types_in base ++ index_types_in indices

  pub index_types_in : Indices → List Ty
  index_types_in no_indices = []
  index_types_in (index_and t v is) = t ∷ types_in v ++ index_types_in is

-- the types that an initialiser spells
abbrev mutual
  pub init_types_in : Ini → List Ty
  init_types_in (array_init is) = all_init_types_in is
  init_types_in (structure_init is) = all_init_types_in is
  init_types_in (packed_init is) = all_init_types_in is
  init_types_in _ = []

  pub all_init_types_in : Inis → List Ty
  all_init_types_in no_inits = []
  all_init_types_in (init_and t i is) = t ∷ init_types_in i ++ all_init_types_in is

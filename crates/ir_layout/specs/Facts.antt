-- What the layout keeps of a type: its size, cut at just over the limit of a type, its alignment, and which rules it falls under.
use Rattle.std.specs.Prelude.{◌≡◌, ℕ, ◌+◌, ◌*◌, ◌/◌, ◌≤◌, ◌<◌, Bool, true, false, not, ◌&&◌, ◌||◌, max, min, nat_lt, if◌then◌else◌, Option, Some, None, is_some, List, length, slice_index, slice_index_or, bytes_eq, Contains}
use Rattle.std.specs.List.{All, IsDistinct, list_any}
use Rattle.ir_ast.specs.Plain.{Ty, Tys, nothing, integer, pointer, array, structure, packed, named, opaque, no_types, type_and}
use Rattle.ir_ast.specs.Table.{names_of, place_of}
use Rattle.ir_type.specs.Names.{names_in, parts_of}
use Rattle.ir_type.specs.Whole.{Types, whole, meant, is_memory_width, has_odd}
use Rattle.ir_type.specs.Cycles.{IsBadName, is_opaque, name_at, graph_of, SaysCyclic}
use Rattle.hk_graph.specs.Sorted.{IsOrder, flag_of}
use Rattle.ir_layout.specs.Sizes.{up_to, size_of, align_of}
use Rattle.ir_layout.specs.declared.fact.Fact.{Fact}

-- a size as it is kept
abbrev pub cut : ℕ → ℕ
cut n = min n 4294967297

-- a type with a size, of more than 2^32 bytes
abbrev pub is_over : Bool → Bool → ℕ → Bool
is_over known odd size = known && (not odd && nat_lt 4294967296 size)

abbrev pub scalar_fact : ℕ → ℕ → Bool → Fact
scalar_fact size align odd = record { known = true; size = cut size; align = align; odd = odd; bad = false; large = is_over true odd (cut size) }

abbrev pub integer_fact : ℕ → Fact
integer_fact w = scalar_fact (w / 8) (if is_memory_width w then w / 8 else 1) (not (is_memory_width w))

-- what stands for no type; nothing is known of an unknown name but that it is bad
abbrev pub opaque_fact : Fact
opaque_fact = record { known = false; size = 0; align = 1; odd = false; bad = false; large = false }

abbrev pub unknown_fact : Fact
unknown_fact = record { known = false; size = 0; align = 1; odd = false; bad = true; large = false }

abbrev pub array_fact : ℕ → Fact → Fact
array_fact n f = record {
  known = f.known;
  size = cut (n * f.size);
  align = f.align;
  odd = f.odd;
  bad = f.bad;
  large = f.large || is_over f.known f.odd (cut (n * f.size));
}

-- the fields so far, of which the size is where they end
abbrev pub no_fields : Fact
no_fields = record { known = true; size = 0; align = 1; odd = false; bad = false; large = false }

abbrev pub with_field : Fact → Fact → Fact
with_field all f = record {
  known = all.known && f.known;
  size = cut (up_to f.align all.size + f.size);
  align = max all.align f.align;
  odd = all.odd || f.odd;
  bad = all.bad || f.bad;
  large = all.large || f.large;
}

abbrev pub with_packed : Fact → Fact → Fact
with_packed all f = record {
  known = all.known && f.known;
  size = cut (all.size + f.size);
  align = 1;
  odd = all.odd || f.odd;
  bad = all.bad || f.bad;
  large = all.large || f.large;
}

abbrev pub struct_fact : Fact → Fact
struct_fact all = record {
  known = all.known;
  size = cut (up_to all.align all.size);
  align = all.align;
  odd = all.odd;
  bad = all.bad;
  large = all.large || is_over all.known all.odd (cut (up_to all.align all.size));
}

abbrev pub packed_fact : Fact → Fact
packed_fact all = record {
  known = all.known;
  size = all.size;
  align = 1;
  odd = all.odd;
  bad = all.bad;
  large = all.large || is_over all.known all.odd all.size;
}

abbrev mutual
  pub fact_by : (List ℕ → Fact) → Ty → Fact
  fact_by look nothing = scalar_fact 0 1 false
  fact_by look (integer w) = integer_fact w
  fact_by look pointer = scalar_fact 8 8 false
  fact_by look (array n t) = array_fact n (fact_by look t)
  fact_by look (structure ts) = struct_fact (fields_by look no_fields ts)
  fact_by look (packed ts) = packed_fact (packed_by look no_fields ts)
  fact_by look (named x) = look x
  fact_by look opaque = opaque_fact

  pub fields_by : (List ℕ → Fact) → Fact → Tys → Fact
  fields_by look all no_types = all
  fields_by look all (type_and t ts) = fields_by look (with_field all (fact_by look t)) ts

  pub packed_by : (List ℕ → Fact) → Fact → Tys → Fact
  packed_by look all no_types = all
  packed_by look all (type_and t ts) = packed_by look (with_packed all (fact_by look t)) ts

-- the fact of a name, by its place
abbrev pub fact_at : List Fact → Option ℕ → Fact
fact_at facts None = unknown_fact
fact_at facts (Some place) = slice_index_or facts place unknown_fact

abbrev pub look_in : {E : Type 0} → List (List ℕ × E) → List Fact → List ℕ → Fact
look_in names facts x = fact_at facts (place_of x names)

-- what is kept of a named type: it is bad where it has no parts of its own
abbrev pub named_fact : Bool → Fact → Fact
named_fact bad f = record { known = f.known; size = f.size; align = f.align; odd = f.known && f.odd; bad = bad; large = is_over f.known (f.known && f.odd) f.size }

-- the same, where it may contain itself
abbrev pub node_fact : Bool → Ty → Fact → Fact
node_fact true over f = unknown_fact
node_fact false over f = named_fact (is_opaque over) f

-- the size and the alignment of what stands for a type; `opaque` has the size 0 and the alignment 1
abbrev pub known_size : Fact → ℕ
known_size f = if f.known then f.size else 0

abbrev pub known_align : Fact → ℕ
known_align f = if f.known then f.align else 1

-- what is kept is in bounds
pub record IsKept (f : Fact) : Type 0 where
  pub some : 0 < f.align
  pub few : f.align ≤ 8
  pub cut_off : f.size ≤ 4294967297

-- ---- what the facts say

-- the size of a type, and 0 where it has none
abbrev pub size_or_none : Types → Ty → ℕ
size_or_none types t = if has_odd (meant types t) then 0 else size_of (meant types t)

-- an integer of another width than 8, 16, 32 and 64 stands in a type as it is spelled, or in what a name of it stands for
abbrev pub has_odd_within : Types → Ty → Bool
has_odd_within types t = has_odd t || list_any (λ x. has_odd (meant types (named x))) (names_in t)

-- a type that is spelled, or a part of it, has more than 2^32 bytes
abbrev pub is_large_within : Types → Ty → Bool
is_large_within types t = list_any (λ p. nat_lt 4294967296 (size_or_none types p)) (parts_of t)

-- one of these names stands for no type, or for one that contains itself
abbrev pub HasBadName : Types → List (List ℕ) → Type 0
HasBadName types names = (x : List ℕ) × Contains names x × IsBadName types x

pub record NameFits (types : Types) (x : List ℕ) (f : Fact) : Type 0 where
  pub known : f.known ≡ is_some (whole types (named x))
  pub size : f.known ≡ true → f.size ≡ cut (size_of (meant types (named x)))
  pub align : f.known ≡ true → f.align ≡ align_of (meant types (named x))
  pub odd : f.odd ≡ has_odd (meant types (named x))
  pub bad : f.bad ≡ true → IsBadName types x
  pub good : IsBadName types x → f.bad ≡ true
  pub large : f.large ≡ is_over f.known f.odd f.size

pub record FactFits (types : Types) (t : Ty) (f : Fact) : Type 0 where
  pub known : f.known ≡ is_some (whole types t)
  pub size : f.known ≡ true → f.size ≡ cut (size_of (meant types t))
  pub align : f.known ≡ true → f.align ≡ align_of (meant types t)
  pub seen : f.known ≡ true → f.odd ≡ has_odd (meant types t)
  pub odd : f.odd ≡ has_odd_within types t
  pub bad : f.bad ≡ true → HasBadName types (names_in t)
  pub good : HasBadName types (names_in t) → f.bad ≡ true
  pub large : f.large ≡ is_large_within types t

-- an order of the named types, by their places: those that a type spells stand before it, unless it contains itself, which the flags tell
pub record IsTypeOrder (types : Types) (nodes : List ℕ) (cyclic : List Bool) : Type 0 where
  pub order : IsOrder (graph_of types) nodes cyclic
  pub says : (p : ℕ) → p < length types → SaysCyclic types (flag_of cyclic p) p

-- the facts of all named types, by their places
pub record AreFacts (types : Types) (facts : List Fact) : Type 0 where
  pub distinct : IsDistinct bytes_eq (names_of types)
  pub count : length facts ≡ length types
  pub kept : All IsKept facts
  pub each : (p : ℕ) → p < length types → NameFits types (name_at types p) (slice_index_or facts p unknown_fact)

-- the facts so far: of the first types of an order
pub record IsFilled (types : Types) (nodes : List ℕ) (k : ℕ) (facts : List Fact) : Type 0 where
  pub count : length facts ≡ length types
  pub kept : All IsKept facts
  pub each : (i : ℕ) → i < k → i < length nodes → NameFits types (name_at types (slice_index nodes i)) (slice_index_or facts (slice_index nodes i) unknown_fact)

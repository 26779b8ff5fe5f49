-- The limits of a specification as tests.
use Rattle.std.specs.Prelude.{ℕ, ◌+◌, ◌^◌, Bool, ◌&&◌, nat_le, nat_eq, List, [], ◌∷◌, length}
use Rattle.std.specs.List.{list_all}
use Rattle.spec_tree.specs.Plain.{Key, Field, Spec}
use Rattle.spec_scope.specs.Scope.{is_width}
use Rattle.spec_lines.specs.Sorts.{cut, is_index, tuples_of}

abbrev pub is_index_sort : Key → Bool
is_index_sort k = is_index k.width k.size

abbrev pub has_sort : Field → Bool
has_sort f = list_all is_index_sort f.keys && (nat_le (length f.keys) 4 && (nat_le (tuples_of f.keys) (2 ^ 20) && is_width f.width))

-- so many entries, and then those of the fields, to one more than the limit
abbrev pub entries_from : ℕ → List Field → ℕ
entries_from n [] = n
entries_from n (f ∷ fs) = entries_from (cut (n + tuples_of f.keys)) fs

-- a specification of a text with so many declared fields
abbrev pub is_within : ℕ → Spec → Bool
is_within count s =
    nat_eq (length s.fields) count && (list_all has_sort s.fields && (nat_le (entries_from 0 s.fields) (2 ^ 22) && nat_le (length s.transitions) 256))

-- The sorts that a line spells.
use Rattle.std.specs.Prelude.{ℕ, ◌+◌, ◌*◌, ◌^◌, Bool, ◌&&◌, if◌then◌else◌, nat_le, Option, Some, None, List, [], ◌∷◌, ◌++◌}
use Rattle.spec_ast.specs.declared.raw.RawSort.{RawSort}
use Rattle.spec_ast.specs.declared.raw.RawSort.TheVariants.{Named, Bits, Index}
use Rattle.spec_tree.specs.declared.sort.Sort as declared
use Rattle.spec_tree.specs.Plain.{Key}
use Rattle.spec_tree.specs.Sorted.{FieldSort}
use Rattle.spec_scope.specs.declared.meaning.Meaning.{Meaning}
use Rattle.spec_scope.specs.declared.meaning.Meaning.TheVariants.{Sort, Variable, Nothing}
use Rattle.spec_scope.specs.Scope.{Scope, meaning, is_width}
use Rattle.spec_scope.specs.Taking.{chain}

abbrev pub sort_meant : Option Meaning → Option declared.Sort
sort_meant (Some (Sort sort)) = Some sort
sort_meant _ = None

-- an index sort has 1 to 65,536 indices, which its width holds
abbrev pub is_index : ℕ → ℕ → Bool
is_index w n = is_width w && (nat_le 1 n && (nat_le n 65536 && nat_le n (2 ^ w)))

abbrev pub bits_of : ℕ → Option declared.Sort
bits_of w = if is_width w then Some (record { width = w; size = None }) else None

abbrev pub index_of : ℕ → ℕ → Option declared.Sort
index_of w n = if is_index w n then Some (record { width = w; size = Some n }) else None

-- the sort, where its name is one of a sort and it is within the limits
abbrev pub sort_for : Scope → RawSort → Option declared.Sort
sort_for s (Named x) = sort_meant (meaning s x)
sort_for s (Bits w) = bits_of w
sort_for s (Index w n) = index_of w n

abbrev pub key_with : ℕ → Option ℕ → Option Key
key_with w None = None
key_with w (Some n) = Some (record { width = w; size = n })

-- keys and variables are of index sorts
abbrev pub key_for : Scope → RawSort → Option Key
key_for s sort = chain (sort_for s sort) (λ made. key_with made.width made.size)

-- these keys, and then those of the sorts
abbrev pub keys_from : Scope → List Key → List RawSort → Option (List Key)
keys_from s keys [] = Some keys
keys_from s keys (sort ∷ sorts) = chain (key_for s sort) (λ key. keys_from s (keys ++ key ∷ []) sorts)

abbrev pub field_sort_with : Option (List Key) → Option declared.Sort → Option FieldSort
field_sort_with None entry = None
field_sort_with (Some keys) None = None
field_sort_with (Some keys) (Some entry) = Some (record { keys = keys; width = entry.width })

abbrev pub field_sort_for : Scope → List RawSort → RawSort → Option FieldSort
field_sort_for s keys entry = field_sort_with (keys_from s [] keys) (sort_for s entry)

-- entries are counted to one more than the limit
abbrev pub cut : ℕ → ℕ
cut n = if nat_le n (2 ^ 22) then n else 2 ^ 22 + 1

-- how many index tuples keys have
abbrev pub tuples_of : List Key → ℕ
tuples_of [] = 1
tuples_of (key ∷ keys) = cut (key.size * tuples_of keys)

-- how many entries a field has
abbrev pub entries_of : Option FieldSort → ℕ
entries_of None = 0
entries_of (Some sort) = tuples_of sort.keys

-- what the name of such a line means
abbrev pub sort_meaning : Option declared.Sort → Meaning
sort_meaning None = Nothing
sort_meaning (Some sort) = Sort sort

abbrev pub variable_meaning : Option Key → Meaning
variable_meaning None = Nothing
variable_meaning (Some key) = Variable key.width key.size

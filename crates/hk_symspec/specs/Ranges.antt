-- Index tuples against the sizes of keys.
use Rattle.std.specs.Prelude.{◌≡◌, ℕ, ◌<◌, Bool, true, false, ◌&&◌, nat_eq, nat_lt, Some, List, [], ◌∷◌, length, slice_index, slice_index_or}
use Rattle.spec_tree.specs.Plain.{Key}
use Rattle.spec_tree.specs.Sorted.{FieldSort, no_field, product, key_sizes}
use Rattle.spec_tree.specs.Value.{place_behind}
use Rattle.spec_tree.specs.Meaning.{State}

-- each index is below its key's size
abbrev pub in_range : List Key → List ℕ → Bool
in_range [] is = true
in_range (k ∷ ks) [] = false
in_range (k ∷ ks) (i ∷ is) = nat_lt i k.size && in_range ks is

abbrev pub same_numbers : List ℕ → List ℕ → Bool
same_numbers [] js = true
same_numbers (i ∷ is) [] = false
same_numbers (i ∷ is) (j ∷ js) = nat_eq i j && same_numbers is js

-- a state has as many entries in each field as there are index tuples
pub record IsLong (fields : List FieldSort) (state : State) : Type 0 where
  pub count : length state ≡ length fields
  pub each : (f : ℕ) → f < length fields → length (slice_index_or state f []) ≡ product (key_sizes (slice_index_or fields f no_field).keys)

-- where the indices are below their sizes, this number is the entry of a field
abbrev pub IsEntry : List FieldSort → ℕ → List ℕ → State → ℕ → Type 0
IsEntry fields field is state n =
    (p : ℕ) → place_behind 0 (slice_index_or fields field no_field).keys is ≡ Some p → n ≡ slice_index (slice_index_or state field []) p

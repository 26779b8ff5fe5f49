-- The sort of a field of the specification.
use Rattle.std.proofs.Common.{◌≡◌, ◌<◌, ◌≤◌, ℕ, List, map, length, arith, ap, sym, ◌∙◌}
use Rattle.std.specs.Prelude.{slice_index_or}
use Rattle.std.proofs.lemmas.List.{length-map, get_or-map}
use Rattle.spec_tree.specs.Sorted.{no_field, sort_of}
use Rattle.spec_tree.specs.View.{view_field}
use Rattle.spec_tree.specs.declared.spec.Field.{Field}
use Rattle.std.proofs.lemmas.List.{get_or_past}

pub sort_there : (fs : List Field) (f : ℕ) (d : Field) → f < length fs → sort_of (view_field (slice_index_or fs f d)) ≡ slice_index_or (map sort_of (map view_field fs)) f no_field
sort_there fs f d low =
    sym (get_or-map sort_of (map view_field fs) f (view_field d) no_field (omega (arith, low, length-map fs view_field))
    ∙ ap sort_of (get_or-map view_field fs f d (view_field d) low))

pub no_sort : (fs : List Field) (f : ℕ) → length fs ≤ f → no_field ≡ slice_index_or (map sort_of (map view_field fs)) f no_field
no_sort fs f high = sym (get_or_past (map sort_of (map view_field fs)) f no_field (omega (arith, high, length-map fs view_field, length-map (map view_field fs) sort_of)))

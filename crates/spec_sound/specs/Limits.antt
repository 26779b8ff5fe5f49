-- What is tested once more of the specification that lines stand for: its limits, and that each copy line stands in a handler.
use Rattle.std.specs.Prelude.{◌≡◌, ◌^◌, ◌≤◌, Bool, true, ◌&&◌, List, [], ◌∷◌, length, All, sum_by}
use Rattle.spec_ast.specs.Raw.{Item, Line, copy_line}
use Rattle.spec_tree.specs.Plain.{Spec}
use Rattle.spec_tree.specs.Sorted.{product, key_sizes, sort_of, IsFieldSort}
use Rattle.spec_names.specs.Kernel.{Kernel}
use Rattle.spec_lines.specs.Behind.{Here, kind_of, is_handler, fields_of, behind, begin}

abbrev pub copy_stands : Here → Item → Bool
copy_stands h (copy_line x o) = is_handler (kind_of h.head)
copy_stands h _ = true

-- each copy line stands in a handler
abbrev pub copies_stand : Here → List Line → Bool
copies_stand h [] = true
copies_stand h (l ∷ ls) = copy_stands h l.item && copies_stand (behind h l.line l.item) ls

-- every declared field has a place, the sorts are within the limits, and so are the entries of all fields and the handlers
pub record IsWithin (k : Kernel) (raw : List Line) (spec : Spec) : Type 0 where
  pub counted : length spec.fields ≡ length (fields_of k raw)
  pub sorts : All (λ f. IsFieldSort (sort_of f)) spec.fields
  pub entries : sum_by (λ f. product (key_sizes f.keys)) spec.fields ≤ 2 ^ 22
  pub handlers : length spec.transitions ≤ 256
  pub copies : copies_stand (begin k raw) raw ≡ true

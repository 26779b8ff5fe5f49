-- Fields by the numbers of a row.
use Rattle.std.proofs.Common.{◌≡◌, ◌∙◌, ◌<◌, ◌≤◌, ℕ, zero, suc, Some, None, List, [], ◌∷◌, length, refl, ap, sym}
use Rattle.std.proofs.lemmas.Option.{slice_get-get_or, slice_get_past}
use Rattle.std.specs.Prelude.{slice_get, slice_index, option_map}
use Rattle.ir_ast.specs.Plain.{Ty}
use Rattle.ir_whole.specs.Heads.{type_at, fields}
use Rattle.ir_whole.specs.Questions.{count_in, field_in}

pub count_fields : (types : List Ty) (row : List ℕ) → length row ≡ count_in (fields types row)
count_fields types [] = refl
count_fields types (p ∷ row) = ap suc (count_fields types row)

pub field_there : (types : List Ty) (row : List ℕ) (k : ℕ) → option_map (type_at types) (slice_get row k) ≡ field_in k (fields types row)
field_there types [] k = refl
field_there types (p ∷ row) zero = refl
field_there types (p ∷ row) (suc k) = field_there types row k

pub field_some : (types : List Ty) (items row : List ℕ) (k : ℕ) → items ≡ row → k < length items → Some (type_at types (slice_index items k)) ≡ field_in k (fields types row)
field_some types items row k same l = ap (option_map (type_at types)) (sym (slice_get-get_or items k 0 l) ∙ ap (λ xs. slice_get xs k) same) ∙ field_there types row k

pub field_past : (types : List Ty) (items row : List ℕ) (k : ℕ) → items ≡ row → length items ≤ k → None ≡ field_in k (fields types row)
field_past types items row k same l = ap (option_map (type_at types)) (sym (slice_get_past items k l) ∙ ap (λ xs. slice_get xs k) same) ∙ field_there types row k

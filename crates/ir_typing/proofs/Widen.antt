-- Tests on types by the widths of integers.
use Rattle.std.proofs.Common.{◌≡◌, ℕ, Bool, Option, Some, None, refl, ap, ◌∙◌}
use Rattle.ir_ast.specs.Plain.{Ty, nothing, integer, pointer, array, structure, packed, named, opaque}
use Rattle.ir_type.specs.Whole.{is_odd}
use Rattle.ir_whole.specs.Questions.{width_of}

abbrev odd_of : Option ℕ → Bool
odd_of None = is_odd pointer
odd_of (Some w) = is_odd (integer w)

pub odd_by_width : (t : Ty) (o : Option ℕ) → o ≡ width_of t → odd_of o ≡ is_odd t
odd_by_width t o e = ap odd_of e ∙ known t
  where
    known : (t : Ty) → odd_of (width_of t) ≡ is_odd t
    known nothing = refl
    known (integer w) = refl
    known pointer = refl
    known (array n t) = refl
    known (structure ts) = refl
    known (packed ts) = refl
    known (named x) = refl
    known opaque = refl

-- Types of parameters and results, by what is kept of whole types.
use Rattle.std.proofs.Common.{◌≡◌, ℕ, true, false, Option, Some, None, refl, ◌∙◌, ap}
use Rattle.ir_ast.specs.Plain.{Ty, nothing, integer, pointer, array, structure, packed, named, opaque}
use Rattle.ir_type.specs.Whole.{is_void}
use Rattle.ir_whole.specs.Questions.{width_of}
use Rattle.spec_kernel.specs.View.{value_type, result_type}
use Rattle.spec_kernel.specs.Seen.{by_width}

width_type : (t : Ty) → by_width (width_of t) ≡ value_type t
width_type nothing = refl
width_type (integer w) = refl
width_type pointer = refl
width_type (array n t) = refl
width_type (structure ts) = refl
width_type (packed ts) = refl
width_type (named x) = refl
width_type opaque = refl

pub width_value : (o : Option ℕ) (t : Ty) → o ≡ width_of t → by_width o ≡ value_type t
width_value o t e = ap by_width e ∙ width_type t

pub void_result : (t : Ty) → is_void t ≡ true → None ≡ result_type t
void_result nothing e = refl
void_result (integer w) e = cc
void_result pointer e = cc
void_result (array n t) e = cc
void_result (structure ts) e = cc
void_result (packed ts) e = cc
void_result (named x) e = cc
void_result opaque e = cc

pub other_result : (t : Ty) → is_void t ≡ false → Some (value_type t) ≡ result_type t
other_result nothing e = cc
other_result (integer w) e = refl
other_result pointer e = refl
other_result (array n t) e = refl
other_result (structure ts) e = refl
other_result (packed ts) e = refl
other_result (named x) e = refl
other_result opaque e = refl

-- The pair that a part is taken from.
use Rattle.std.specs.Prelude.{ℕ, Bool, false, Option, Some, None}
use Rattle.ir_ast.specs.Plain.{Ty}
use Rattle.ir_type.specs.Whole.{is_same}
use Rattle.ir_typing.specs.Intrinsics.{number_and_bit}
use Rattle.ir_typing.specs.Registers.{Kind, pair_of}

abbrev pub pair_kind : Option Kind → Option Ty
pair_kind (Some (pair_of t)) = Some t
pair_kind _ = None

abbrev pub pair_by : ℕ → Option Ty → Bool
pair_by w (Some t) = is_same t (number_and_bit w)
pair_by w None = false

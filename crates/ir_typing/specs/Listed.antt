-- What the intrinsics of the code mean.
use Rattle.std.specs.Prelude.{ℕ, Option, Some, None, List, [], ◌∷◌, if◌then◌else◌, ◌&&◌, ◌+◌, ◌-◌, ◌*◌, nat_le}
use Rattle.ir_typing.specs.declared.intrinsics.Form.{Form}
use Rattle.ir_typing.specs.declared.intrinsics.Form.TheVariants.{Overflow, Pair, Flag, Assume}
use Rattle.ir_typing.specs.declared.intrinsics.Listed.{Listed}
use Rattle.ir_typing.specs.Intrinsics.{Intrinsic, with_overflow, plain_pair, with_flag, assuming}

abbrev pub form_at : Form → ℕ → Intrinsic
form_at Overflow w = with_overflow w
form_at Pair w = plain_pair w
form_at Flag w = with_flag w
form_at Assume w = assuming

abbrev pub view_listed : Listed → Intrinsic
view_listed l = form_at l.form l.width

-- the width from 1 to 64 that these digits write
abbrev pub width_of : List ℕ → Option ℕ
width_of (d ∷ []) = if nat_le 49 d && nat_le d 57 then Some (d - 48) else None
width_of (t ∷ d ∷ []) =
    if nat_le 49 t && nat_le t 54 && nat_le 48 d && nat_le d 57 then (if nat_le (10 * (t - 48) + (d - 48)) 64 then Some (10 * (t - 48) + (d - 48)) else None) else None
width_of _ = None

-- K13: pointers that are read or written outside a slot.
use Rattle.std.specs.Prelude.{◌≡◌, Bool, true, false, not, ◌&&◌, is_some}
use Rattle.ir_ast.specs.Program.{Act, load, store}
use Rattle.ir_type.specs.Whole.{meant, is_pointer}
use Rattle.ir_typing.specs.Fits.{Scope, slot_at}

-- a load or store of a pointer outside a slot
abbrev pub is_pointer_access : Scope → Act → Bool
is_pointer_access s (load over target align range) = is_pointer (meant s.types over) && not (is_some (slot_at s target))
is_pointer_access s (store over value target align) = is_pointer (meant s.types over) && not (is_some (slot_at s target))
is_pointer_access s _ = false

abbrev pub IsPointerAccess : Scope → Act → Type 0
IsPointerAccess s act = is_pointer_access s act ≡ true

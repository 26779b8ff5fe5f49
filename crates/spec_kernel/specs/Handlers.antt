-- What a specification asks of the function of a handler, or of a hook.
use Rattle.std.specs.Prelude.{ℕ, Bool, true, false, not, ◌&&◌, ◌||◌, nat_eq, Option, Some, None, is_none, length}
use Rattle.std.specs.List.{list_any}
use Rattle.spec_names.specs.Kernel.{ValueType, number, address, Function}

-- a function with a body and so many parameters
abbrev pub has_body_with : ℕ → Option Function → Bool
has_body_with count None = false
has_body_with count (Some f) = f.defined && nat_eq (length f.parameters) count

abbrev pub is_address : ValueType → Bool
is_address address = true
is_address (number w) = false

abbrev pub gives_address : Option ValueType → Bool
gives_address None = false
gives_address (Some t) = is_address t

-- a function with a pointer among its parameters, or with a pointer as its result
abbrev pub has_address : Option Function → Bool
has_address None = false
has_address (Some f) = list_any is_address f.parameters || gives_address f.result

-- a declared function whose result is void
abbrev pub is_void_declared : Option Function → Bool
is_void_declared None = false
is_void_declared (Some f) = not f.defined && is_none f.result

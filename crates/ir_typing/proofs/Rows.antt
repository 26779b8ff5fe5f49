-- Small cases of the definitions, by computation.
use Rattle.std.proofs.Common.{◌≡◌, ℕ, true, false, Some, None, List, [], ◌∷◌, refl, pos, negsuc}
use Rattle.std.specs.Prelude.{codes}
use Rattle.ir_ast.specs.Plain.{Ty, nothing, integer, pointer, array, structure, no_types, type_and, named, local, global, number, null, form, no_indices, index_and, number_init, pointer_init}
use Rattle.ir_ast.specs.Program.{Act, binary, phi, slot, load, store, offset, switch, give, InstrView, BlockView, FunctionView, GlobalView, RangeView, ModuleView}
use Rattle.ir_ast.specs.declared.operand.Flags.{Flags}
use Rattle.ir_ast.specs.declared.instr.BinaryKind.TheVariants.{Add}
use Rattle.ir_typing.specs.Known.{is_known}
use Rattle.ir_typing.specs.Fits.{scope_of, instr_fits, head_fits, global_fits}
use Rattle.ir_typing.specs.Access.{is_pointer_access}

abbrev flags : Flags
flags = record { nuw = false; nsw = false; exact = false; disjoint = false; nneg = false; inbounds = false }

abbrev byte_global : List ℕ → GlobalView
byte_global x = record { line = 1; name = x; constant = false; over = integer 8; init = number_init (pos 0); align = None }

abbrev sets : ℕ → List ℕ → Act → InstrView
sets line x act = record { line = line; result = Some x; act = act }

abbrev does : ℕ → Act → InstrView
does line act = record { line = line; result = None; act = act }

abbrev block : ℕ → List ℕ → List InstrView → BlockView
block line x is = record { line = line; name = x; instrs = is }

abbrev function : ℕ → List ℕ → Ty → List (Ty × List ℕ) → List BlockView → FunctionView
function line x result parameters blocks = record { line = line; name = x; result = result; parameters = parameters; body = Some blocks }

abbrev byte_range : List ℕ × RangeView
byte_range = (codes "0", record { line = 9; numbers = (integer 8, pos 0) ∷ (integer 8, pos 4) ∷ [] })

abbrev only : FunctionView → ModuleView
only f = record {
  layout_text = None;
  types = (codes "t", record { line = 1; over = integer 8 }) ∷ [];
  globals = (codes "a", byte_global (codes "a")) ∷ [];
  functions = (f.name, f) ∷ [];
  ranges = byte_range ∷ [];
}

-- %y = add i8 %x, 1
abbrev unknown : FunctionView
unknown = function 1 (codes "f") (integer 8) [] (block 1 (codes "0") (sets 2 (codes "y") (binary Add flags 8 (local (codes "x")) (number (pos 1))) ∷ does 3 (give (integer 8) (Some (local (codes "y")))) ∷ []) ∷ [])

register_is_unknown : is_known (only unknown) unknown (binary Add flags 8 (local (codes "x")) (number (pos 1))) ≡ false
register_is_unknown = refl

-- %y = add i8 1, 300, and 255, -128, -129
misfits_300 : instr_fits (only unknown) unknown [] (sets 2 (codes "y") (binary Add flags 8 (number (pos 1)) (number (pos 300)))) ≡ false
misfits_300 = refl

fits_255 : instr_fits (only unknown) unknown [] (sets 2 (codes "y") (binary Add flags 8 (number (pos 255)) (number (negsuc 127)))) ≡ true
fits_255 = refl

misfits_129 : instr_fits (only unknown) unknown [] (sets 2 (codes "y") (binary Add flags 8 (number (pos 255)) (number (negsuc 128)))) ≡ false
misfits_129 = refl

-- %t = type i8
fits_named : instr_fits (only unknown) unknown [] (sets 2 (codes "y") (load (named (codes "t")) (global (codes "a")) 0 (Some (codes "0")))) ≡ true
fits_named = refl

-- the range is of i8
misfits_range : instr_fits (only unknown) unknown [] (sets 2 (codes "y") (load (integer 16) (global (codes "a")) 0 (Some (codes "0")))) ≡ false
misfits_range = refl

-- getelementptr [4 x { i32, [4 x i32] }], ptr @a, i64 0, i64 %i, i32 1, i64 3
abbrev indexed : FunctionView
indexed = function 1 (codes "f") nothing ((integer 64, codes "i") ∷ []) []

abbrev procs : Ty
procs = array 4 (structure (type_and (integer 32) (type_and (array 4 (integer 32)) no_types)))

fits_steps : instr_fits (only indexed) indexed [] (sets 2 (codes "p") (offset (form flags procs (global (codes "a")) (index_and (integer 64) (number (pos 0)) (index_and (integer 64) (local (codes "i")) (index_and (integer 32) (number (pos 1)) (index_and (integer 64) (number (pos 3)) no_indices))))))) ≡ true
fits_steps = refl

-- the field as i64; field 2; an index that is a pointer
misfits_steps : instr_fits (only indexed) indexed [] (sets 2 (codes "p") (offset (form flags procs (global (codes "a")) (index_and (integer 64) (number (pos 0)) (index_and (integer 64) (local (codes "i")) (index_and (integer 64) (number (pos 1)) no_indices)))))) ≡ false
misfits_steps = refl

misfits_field : instr_fits (only indexed) indexed [] (sets 2 (codes "p") (offset (form flags procs (global (codes "a")) (index_and (integer 64) (number (pos 0)) (index_and (integer 64) (local (codes "i")) (index_and (integer 32) (number (pos 2)) no_indices)))))) ≡ false
misfits_field = refl

misfits_index : instr_fits (only indexed) indexed [] (sets 2 (codes "p") (offset (form flags procs (global (codes "a")) (index_and pointer null no_indices)))) ≡ false
misfits_index = refl

-- a slot: loaded in its type, in another, stored as a value
abbrev slotted : FunctionView
slotted = function 1 (codes "f") nothing [] (block 1 (codes "0") (sets 2 (codes "s") (slot (integer 7) 0) ∷ []) ∷ [])

fits_slot : instr_fits (only slotted) slotted [] (sets 3 (codes "v") (load (integer 7) (local (codes "s")) 0 None)) ≡ true
fits_slot = refl

misfits_slot : instr_fits (only slotted) slotted [] (sets 3 (codes "v") (load (integer 8) (local (codes "s")) 0 None)) ≡ false
misfits_slot = refl

misfits_stored : instr_fits (only slotted) slotted [] (does 3 (store pointer (local (codes "s")) (local (codes "s")) 0)) ≡ false
misfits_stored = refl

misfits_odd : instr_fits (only slotted) slotted [] (sets 3 (codes "v") (load (integer 7) (global (codes "a")) 0 None)) ≡ false
misfits_odd = refl

misfits_switch : instr_fits (only slotted) slotted [] (does 3 (switch 8 (number (pos 1)) (codes "0") ((pos 255, codes "0") ∷ (negsuc 0, codes "0") ∷ []))) ≡ false
misfits_switch = refl

-- a phi behind another instruction
misfits_phi : instr_fits (only slotted) slotted (sets 2 (codes "s") (slot (integer 7) 0) ∷ []) (sets 3 (codes "v") (phi (integer 8) ((number (pos 0), codes "0") ∷ []))) ≡ false
misfits_phi = refl

-- a parameter that is a struct
misfits_head : head_fits [] (function 1 (codes "f") nothing ((structure no_types, codes "s") ∷ []) []) ≡ false
misfits_head = refl

-- ptr @a is loaded as a pointer
loads_pointer : is_pointer_access (scope_of (only slotted) slotted) (load pointer (global (codes "a")) 0 None) ≡ true
loads_pointer = refl

misfits_global : global_fits [] (record { line = 1; name = codes "p"; constant = false; over = integer 8; init = pointer_init; align = None }) ≡ false
misfits_global = refl

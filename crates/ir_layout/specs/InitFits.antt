-- Whether an initialiser fits the type of its global (LLVM Language Reference, "Simple Constants", "Complex Constants").
use Rattle.std.specs.Prelude.{ℕ, ◌-◌, ◌^◌, ◌==◌, ℤ, pos, neg_ℤ, int_lt, int_le, Bool, true, false, not, ◌&&◌, length}
use Rattle.std.specs.List.{list_all}
use Rattle.ir_ast.specs.Plain.{Ty, Tys, integer, array, structure, packed, no_types, type_and, Ini, Inis, zero_init, number_init, truth_init, bytes_init, array_init, structure_init, packed_init, pointer_init, no_inits, init_and}
use Rattle.ir_ast.specs.Program.{GlobalView, ModuleView}
use Rattle.ir_type.specs.Whole.{Types, meant, is_pointer, is_same}

-- from -2^(w-1) to 2^w - 1
abbrev pub fits_width : ℕ → ℤ → Bool
fits_width w n = int_le (neg_ℤ (pos (2 ^ (w - 1)))) n && int_lt n (pos (2 ^ w))

abbrev pub fits_number : Ty → ℤ → Bool
fits_number (integer w) n = fits_width w n
fits_number _ n = false

-- the initialiser fits the whole type
abbrev mutual
  pub init_fits : Types → Ty → Ini → Bool
  init_fits types t zero_init = true
  init_fits types t (number_init n) = fits_number t n
  init_fits types t (truth_init b) = is_same t (integer 1)
  init_fits types (array n t) (bytes_init bs) = is_same t (integer 8) && (n == length bs)
  init_fits types (array n t) (array_init is) = elements_fit types n t is
  init_fits types (structure ts) (structure_init is) = fields_fit types ts is
  init_fits types (packed ts) (packed_init is) = fields_fit types ts is
  init_fits types t pointer_init = is_pointer t
  init_fits types t _ = false

  pub elements_fit : Types → ℕ → Ty → Inis → Bool
  elements_fit types n t no_inits = n == 0
  elements_fit types n t (init_and over i is) = not (n == 0) && is_same (meant types over) t && init_fits types t i && elements_fit types (n - 1) t is

  pub fields_fit : Types → Tys → Inis → Bool
  fields_fit types no_types no_inits = true
  fields_fit types (type_and t ts) (init_and over i is) = is_same (meant types over) t && init_fits types t i && fields_fit types ts is
  fields_fit types _ _ = false

-- the initialiser of the global fits
abbrev pub has_fitting_init : Types → GlobalView → Bool
has_fitting_init types g = init_fits types (meant types g.over) g.init

abbrev pub have_fitting_inits : ModuleView → Bool
have_fitting_inits m = list_all (λ g. has_fitting_init m.types g.1) m.globals

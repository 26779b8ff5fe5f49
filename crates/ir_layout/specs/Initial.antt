-- The initial bytes of a global whose initialiser fits its type (LLVM Language Reference, "Global Variables", "Simple Constants",
-- "Complex Constants"). Gaps hold zeros.
use Rattle.std.specs.Prelude.{ℕ, zero, suc, ◌+◌, ◌-◌, ◌*◌, ◌/◌, ◌%◌, ◌^◌, ℤ, pos, negsuc, Bool, true, false, List, [], ◌∷◌, ◌++◌, map, replicate}
use Rattle.ir_ast.specs.Plain.{Ty, Tys, array, structure, packed, type_and, Ini, Inis, zero_init, number_init, truth_init, bytes_init, array_init, structure_init, packed_init, pointer_init, no_inits, init_and}
use Rattle.ir_ast.specs.Program.{GlobalView, ModuleView}
use Rattle.ir_type.specs.Whole.{Types, meant}
use Rattle.ir_layout.specs.Sizes.{up_to, align_of, size_of}

-- the number of a width that a whole number stands for: its value modulo 2^w
abbrev pub modulo : ℕ → ℤ → ℕ
modulo w (pos n) = n % 2 ^ w
modulo w (negsuc n) = 2 ^ w - 1 - n % 2 ^ w

-- a number in so many bytes, the low one first
abbrev pub little_endian : ℕ → ℕ → List ℕ
little_endian zero n = []
little_endian (suc k) n = n % 256 ∷ little_endian k (n / 256)

abbrev pub truth : Bool → ℕ
truth true = 1
truth false = 0

abbrev pub zeros : ℕ → List ℕ
zeros n = replicate n 0

-- the bytes of an initialiser of a whole type; a pointer, which no global of a kernel holds, counts as zeros
abbrev mutual
  pub bytes_of : Ty → Ini → List ℕ
  bytes_of t zero_init = zeros (size_of t)
  bytes_of t (number_init n) = little_endian (size_of t) (modulo (8 * size_of t) n)
  bytes_of t (truth_init b) = little_endian (size_of t) (truth b)
  bytes_of t (bytes_init bs) = bs
  bytes_of t pointer_init = zeros (size_of t)
  bytes_of (array n t) (array_init is) = element_bytes t is
  bytes_of (structure ts) (structure_init is) = field_bytes (size_of (structure ts)) 0 ts is
  bytes_of (packed ts) (packed_init is) = packed_bytes ts is
  bytes_of _ _ = []

  pub element_bytes : Ty → Inis → List ℕ
  element_bytes t no_inits = []
  element_bytes t (init_and over i is) = bytes_of t i ++ element_bytes t is

  -- fields behind so many bytes of a struct of this size: each behind its gap, and the last gap
  pub field_bytes : ℕ → ℕ → Tys → Inis → List ℕ
  field_bytes size at (type_and t ts) (init_and over i is) =
      zeros (up_to (align_of t) at - at) ++ bytes_of t i ++ field_bytes size (up_to (align_of t) at + size_of t) ts is
  field_bytes size at _ _ = zeros (size - at)

  pub packed_bytes : Tys → Inis → List ℕ
  packed_bytes (type_and t ts) (init_and over i is) = bytes_of t i ++ packed_bytes ts is
  packed_bytes _ _ = []

abbrev pub initial_bytes : Types → GlobalView → List ℕ
initial_bytes types g = bytes_of (meant types g.over) g.init

-- the initial machine state: the bytes of each global, in text order
abbrev pub initial_memory : ModuleView → List (List ℕ)
initial_memory m = map (λ g. initial_bytes m.types g.1) m.globals

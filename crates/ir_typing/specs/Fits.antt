-- K9: each operand has the type that its instruction asks for, and what else an item's types have to meet.
use Rattle.std.specs.Prelude.{ℕ, ◌-◌, ◌%◌, ◌^◌, ◌==◌, ℤ, pos, negsuc, Bool, true, false, not, ◌&&◌, ◌||◌, if◌then◌else◌, Option, Some, None, is_some, List, [], ◌∷◌, map, length, nat_eq, nat_lt, slice_get}
use Rattle.std.specs.List.{list_all, list_any}
use Rattle.std.specs.Int.{is_power_of_two}
use Rattle.ir_ast.specs.Plain.{Ty, Tys, integer, pointer, array, structure, packed, no_types, type_and, Val, Form, Indices, local, global, number, null, poison, address, form, no_indices, index_and, Ini, Inis, zero_init, number_init, truth_init, bytes_init, array_init, structure_init, packed_init, pointer_init, no_inits, init_and}
use Rattle.ir_ast.specs.Program.{Act, phi, slot, load, store, call, extract, switch, give, InstrView, FunctionView, GlobalView, RangeView, ModuleView}
use Rattle.ir_type.specs.Names.{entry_of}
use Rattle.ir_type.specs.Whole.{Types, whole, meant, is_pointer, is_void, is_scalar, is_odd, has_odd, is_same}
use Rattle.ir_type.specs.Rows.{operands}
use Rattle.ir_typing.specs.Intrinsics.{Signature, Intrinsic, intrinsic_of, number_and_bit}
use Rattle.ir_typing.specs.Registers.{Kind, value_of, slot_of, pair_of, registers_of, function_of}

-- what the operands of a function are judged by: the named types, and its registers, each with the whole type of what it holds
pub record Scope : Type 0 where
  pub types : Types
  pub registers : List (List ℕ × Kind)

abbrev pub whole_kind : Types → Kind → Kind
whole_kind types (value_of t) = value_of (meant types t)
whole_kind types (slot_of t) = slot_of (meant types t)
whole_kind types (pair_of t) = pair_of (meant types t)

abbrev pub scope_by : Types → FunctionView → Scope
scope_by types f = record { types = types; registers = map (λ r. (r.0, whole_kind types r.1)) (registers_of f) }

abbrev pub scope_of : ModuleView → FunctionView → Scope
scope_of m f = scope_by m.types f

-- ---- numbers

-- from -2^(w-1) to 2^w - 1; `negsuc n` is -(n + 1)
abbrev pub fits_width : ℕ → ℤ → Bool
fits_width w (pos n) = nat_lt n (2 ^ w)
fits_width w (negsuc n) = nat_lt n (2 ^ (w - 1))

abbrev pub modulo : ℕ → ℤ → ℕ
modulo w (pos n) = n % 2 ^ w
modulo w (negsuc n) = 2 ^ w - 1 - n % 2 ^ w

abbrev pub fits_number : Ty → ℤ → Bool
fits_number (integer w) n = fits_width w n
fits_number _ n = false

-- absent (0), or a power of two
abbrev pub is_align : ℕ → Bool
is_align n = (n == 0) || is_power_of_two n

abbrev pub is_integer : Ty → Bool
is_integer (integer w) = true
is_integer _ = false

-- ---- operands

-- a register of this kind is an operand of this type
abbrev pub fits_kind : Ty → Option Kind → Bool
fits_kind t (Some (value_of over)) = is_scalar t && is_same over t
fits_kind t _ = false

abbrev pub list_of : Tys → List Ty
list_of no_types = []
list_of (type_and t ts) = t ∷ list_of ts

-- field k of a struct, k a constant i32
abbrev pub field_at : List Ty → Ty → Val → Option Ty
field_at fields (integer w) (number n) = if w == 32 then slice_get fields (modulo 32 n) else None
field_at fields _ _ = None

-- the part of a type that an index steps to
abbrev pub part_at : Ty → Ty → Val → Option Ty
part_at (array n t) over v = Some t
part_at (structure ts) over v = field_at (list_of ts) over v
part_at (packed ts) over v = field_at (list_of ts) over v
part_at _ over v = None

-- these indices step to a part each
abbrev pub steps : Option Ty → Indices → Bool
steps None is = false
steps (Some t) no_indices = true
steps (Some t) (index_and over v is) = steps (part_at t over v) is

-- the first index steps over whole values of the type
abbrev pub steps_over : Option Ty → Indices → Bool
steps_over t no_indices = is_some t
steps_over t (index_and over v is) = steps t is

-- the operand is one of the type, which is an integer or a pointer
abbrev mutual
  pub fits : Scope → Ty → Val → Bool
  fits s t (local x) = fits_kind t (entry_of x s.registers)
  fits s t (global x) = is_pointer t
  fits s t (number n) = fits_number t n
  fits s t null = is_pointer t
  fits s t poison = is_scalar t
  fits s t (address f) = is_pointer t && form_fits s f

  -- `getelementptr`
  pub form_fits : Scope → Form → Bool
  form_fits s (form flags over base indices) =
      fits s pointer base && indices_fit s indices && not (has_odd (meant s.types over)) && steps_over (whole s.types over) indices

  pub indices_fit : Scope → Indices → Bool
  indices_fit s no_indices = true
  indices_fit s (index_and t v is) = is_integer (meant s.types t) && fits s (meant s.types t) v && indices_fit s is

-- ---- loads and stores

abbrev pub slot_kind : Option Kind → Option Ty
slot_kind (Some (slot_of t)) = Some t
slot_kind _ = None

-- the type of the slot whose address the operand is
abbrev pub slot_at : Scope → Val → Option Ty
slot_at s (local x) = slot_kind (entry_of x s.registers)
slot_at s _ = None

-- an access at an address: to a slot in its own type, to memory in an integer that memory has or a pointer
abbrev pub access_by : Scope → Ty → Val → Option Ty → Bool
access_by s t target (Some over) = is_same t over
access_by s t target None = fits s pointer target && is_scalar t && not (is_odd t)

abbrev pub access_fits : Scope → Ty → Val → ℕ → Bool
access_fits s over target align = is_align align && access_by s (meant s.types over) target (slot_at s target)

-- the entry holds pairs of numbers of the type, which is an integer
abbrev pub fits_range : Types → Ty → Option RangeView → Bool
fits_range types t None = false
fits_range types t (Some r) = is_integer t && (length r.numbers % 2 == 0) && list_all (λ n. is_same (meant types n.0) t && fits_number t n.1) r.numbers

abbrev pub range_fits : Types → ModuleView → Ty → Option (List ℕ) → Bool
range_fits types m over None = true
range_fits types m over (Some x) = fits_range types (meant types over) (entry_of x m.ranges)

-- ---- calls

abbrev pub are_one : Types → List Ty → List Ty → Bool
are_one types [] [] = true
are_one types (t ∷ ts) (u ∷ us) = is_same (meant types t) (meant types u) && are_one types ts us
are_one types _ _ = false

abbrev pub meets : Types → Ty → List Ty → Signature → Bool
meets types result arguments s = is_same (meant types result) (meant types s.result) && are_one types arguments s.parameters

abbrev pub signature_of : FunctionView → Signature
signature_of f = record { result = f.result; parameters = map (λ p. p.0) f.parameters }

-- of a declared function: the intrinsic's own types, whatever its item says; another one is void
abbrev pub meets_declared : Types → Ty → List Ty → Option Intrinsic → Bool
meets_declared types result arguments (Some i) = meets types result arguments i.signature
meets_declared types result arguments None = is_void result

abbrev pub call_fits : Types → Ty → List ℕ → List Ty → Option FunctionView → Bool
call_fits types result name arguments None = false
call_fits types result name arguments (Some f) =
    if is_some f.body then meets types result arguments (signature_of f)
    else meets_declared types result arguments (intrinsic_of name)

-- ---- the further tests, one row each

abbrev pub is_pair : ℕ → Option Kind → Bool
is_pair w (Some (pair_of t)) = is_same t (number_and_bit w)
is_pair w _ = false

abbrev pub pair_at : Scope → ℕ → Val → Bool
pair_at s w (local x) = is_pair w (entry_of x s.registers)
pair_at s w _ = false

abbrev pub all_differ : List ℕ → Bool
all_differ [] = true
all_differ (n ∷ ns) = not (list_any (nat_eq n) ns) && all_differ ns

abbrev pub is_phi : Act → Bool
is_phi (phi over arms) = true
is_phi _ = false

-- `phis`: the instructions before it in its block are all phis; `named`: it sets a register
abbrev pub further : Types → ModuleView → FunctionView → Bool → Bool → Act → Bool
further types m f phis named (phi over arms) = phis
further types m f phis named (slot over align) = is_align align
further types m f phis named (load over target align range) = access_fits (scope_by types f) over target align && range_fits types m over range
further types m f phis named (store over value target align) = access_fits (scope_by types f) over target align
further types m f phis named (call over callee arguments) =
    not (is_void over && named) && call_fits types over callee (map (λ a. a.0) arguments) (function_of m callee)
further types m f phis named (extract w from part) = pair_at (scope_by types f) w from
further types m f phis named (switch w on default cases) = list_all (λ c. fits_width w c.0) cases && all_differ (map (λ c. modulo w c.0) cases)
further types m f phis named (give over value) = is_same (meant types over) (meant types f.result)
further types m f phis named _ = true

abbrev pub operands_fit : Scope → Act → Bool
operands_fit s act = list_all (λ p. fits s (meant s.types p.0) p.1) (operands act)

abbrev pub instr_fits_by : Types → ModuleView → FunctionView → Bool → InstrView → Bool
instr_fits_by types m f phis i = operands_fit (scope_by types f) i.act && further types m f phis (is_some i.result) i.act

abbrev pub instr_fits : ModuleView → FunctionView → List InstrView → InstrView → Bool
instr_fits m f before i = instr_fits_by m.types m f (list_all (λ i. is_phi i.act) before) i

-- ---- functions with a body, and globals

abbrev pub signature_fits : Types → FunctionView → Bool
signature_fits types f = list_all (λ p. is_scalar (meant types p.0)) f.parameters && (is_scalar (meant types f.result) || is_void (meant types f.result))

abbrev pub head_fits : Types → FunctionView → Bool
head_fits types f = not (is_some f.body) || signature_fits types f

-- the initialiser fits the whole type
abbrev mutual
  pub init_fits : Types → Ty → Ini → Bool
  init_fits types t zero_init = true
  init_fits types t (number_init n) = fits_number t n
  init_fits types t (truth_init b) = is_same t (integer 1)
  init_fits types (array n t) (bytes_init bs) = is_same t (integer 8) && (n == length bs)
  init_fits types (array n t) (array_init is) = elements_fit types n t is
  init_fits types (structure ts) (structure_init is) = fields_fit types ts is
  init_fits types (packed ts) (packed_init is) = fields_fit types ts is
  init_fits types t pointer_init = is_pointer t
  init_fits types t _ = false

  pub elements_fit : Types → ℕ → Ty → Inis → Bool
  elements_fit types n t no_inits = n == 0
  elements_fit types n t (init_and over i is) = not (n == 0) && is_same (meant types over) t && init_fits types t i && elements_fit types (n - 1) t is

  pub fields_fit : Types → Tys → Inis → Bool
  fields_fit types no_types no_inits = true
  fields_fit types (type_and t ts) (init_and over i is) = is_same (meant types over) t && init_fits types t i && fields_fit types ts is
  fields_fit types _ _ = false

abbrev pub align_fits : Option ℕ → Bool
align_fits None = true
align_fits (Some n) = is_align n

abbrev pub global_fits : Types → GlobalView → Bool
global_fits types g = init_fits types (meant types g.over) g.init && align_fits g.align

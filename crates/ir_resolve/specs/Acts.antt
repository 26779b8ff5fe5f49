-- Instructions with places for names, and widths, sizes and alignments for types.
use Rattle.std.specs.Prelude.{ℕ, ℤ, Bool, true, false, if◌then◌else◌, min, Option, Some, None, option_map, option_and_then, unwrap_or, is_some, List, [], ◌∷◌, map, position, bytes_eq, length, codes, nat_eq, slice_index_or}
use Rattle.std.specs.List.{starts_with}
use Rattle.ir_ast.specs.Plain.{Ty, Val, Form, local}
use Rattle.ir_ast.specs.Program as plain
use Rattle.ir_ast.specs.Program.{FunctionView, ModuleView}
use Rattle.ir_ast.specs.Table.{place_of}
use Rattle.ir_ast.specs.declared.instr.Predicate.{Predicate}
use Rattle.ir_ast.specs.declared.instr.BinaryKind.{BinaryKind}
use Rattle.ir_ast.specs.declared.instr.ConvertKind.{ConvertKind}
use Rattle.ir_ast.specs.declared.operand.Flags.{Flags}
use Rattle.ir_type.specs.Names.{entry_of}
use Rattle.ir_type.specs.Whole.{meant, is_pointer}
use Rattle.ir_layout.specs.Sizes.{size_of, written_or}
use Rattle.ir_whole.specs.Questions.{width_of}
use Rattle.ir_typing.specs.Registers.{Kind, slot_of, registers_of}
use Rattle.ir_typing.specs.Intrinsics.{intrinsic_of}
use Rattle.ir_typing.specs.Places.{register_names, block_names}
use Rattle.ir_value.specs.declared.intrinsics.OverflowKind.{OverflowKind}
use Rattle.ir_value.specs.declared.intrinsics.OverflowKind.TheVariants as overflow
use Rattle.ir_value.specs.declared.intrinsics.PairKind.{PairKind}
use Rattle.ir_value.specs.declared.intrinsics.PairKind.TheVariants as pair
use Rattle.ir_code.specs.declared.input.Input.{Input}
use Rattle.ir_code.specs.declared.act.Span.{Span}
use Rattle.ir_code.specs.declared.act.Case.{Case}
use Rattle.ir_code.specs.declared.act.Arm.{Arm}
use Rattle.ir_code.specs.declared.act.Act.{Act}
use Rattle.ir_code.specs.declared.act.Act.TheVariants as act
use Rattle.ir_resolve.specs.Operands.{number_in, input_of, form_input, width_in}

-- the operand of a type as it is spelled
abbrev pub typed : ModuleView → FunctionView → Ty → Val → Input
typed m f over v = input_of m f (width_in m over) v

-- operands, each of its type as it is spelled
abbrev pub inputs_of : ModuleView → FunctionView → List (Ty × Val) → List Input
inputs_of m f pairs = map (λ p. typed m f p.0 p.1) pairs

-- the place of a block; a place behind all of them where there is none
abbrev pub block_place : FunctionView → List ℕ → ℕ
block_place f x = unwrap_or (position (bytes_eq x) (block_names f)) (length (block_names f))

-- ---- comparisons

abbrev pub compared : Predicate → Bool → Input → Input → Act
compared p true a b = act.ComparePointers p a b
compared p false a b = act.Unknown

-- of numbers of a width, of pointers, or of neither
abbrev pub compare_by : ModuleView → FunctionView → Bool → Predicate → Option ℕ → Bool → Val → Val → Act
compare_by m f samesign p (Some w) pointers a b = act.Compare samesign p w (input_of m f (Some w) a) (input_of m f (Some w) b)
compare_by m f samesign p None pointers a b = compared p pointers (input_of m f None a) (input_of m f None b)

-- ---- registers that are named where no operand stands

abbrev pub register_place : FunctionView → Val → Option ℕ
register_place f (local x) = position (bytes_eq x) (register_names f)
register_place f _ = None

abbrev pub extract_of : Option ℕ → ℕ → Act
extract_of None part = act.Unknown
extract_of (Some k) part = act.Extract k part

abbrev pub is_slot : Kind → Bool
is_slot (slot_of t) = true
is_slot _ = false

-- whether each register holds the address of a slot
abbrev pub slots_of : FunctionView → List Bool
slots_of f = map (λ r. is_slot r.1) (registers_of f)

-- the place, where its flag is true
abbrev pub where_true : List Bool → ℕ → Option ℕ
where_true flags k = if slice_index_or flags k false then Some k else None

-- the slot whose address an operand is
abbrev pub slot_place : FunctionView → Val → Option ℕ
slot_place f v = option_and_then (where_true (slots_of f)) (register_place f v)

-- ---- memory and slots

-- the bytes of an access; none takes 2^32 or more
abbrev pub bytes_of : Ty → ℕ
bytes_of t = min (size_of t) 4294967295

-- the bounds of a range two by two, modulo 2 to the power of the width; a low one may have been read
abbrev pub spans_from : ℕ → Option ℕ → List (Ty × ℤ) → List Span
spans_from w low [] = []
spans_from w None (n ∷ rest) = spans_from w (Some (number_in w n.1)) rest
spans_from w (Some low) (n ∷ rest) = record { low = low; high = number_in w n.1 } ∷ spans_from w None rest

-- the bounds that stand under a number, none where there is no such range
abbrev pub bounds_of : ModuleView → List ℕ → List (Ty × ℤ)
bounds_of m name = unwrap_or (option_map (λ r. r.numbers) (entry_of name m.ranges)) []

abbrev pub spans_of : ModuleView → ℕ → Option (List ℕ) → Option (List Span)
spans_of m w None = None
spans_of m w (Some name) = Some (spans_from w None (bounds_of m name))

abbrev pub number_width : Ty → ℕ
number_width t = unwrap_or (width_of t) 0

-- a load of a whole type: from the slot whose address the operand is, else from memory
abbrev pub load_by : ModuleView → FunctionView → Ty → Val → ℕ → Option (List Span) → Option ℕ → Act
load_by m f t target align spans (Some k) = act.LoadSlot (number_width t) (written_or align t) spans k
load_by m f t target align spans None = act.Load (number_width t) (bytes_of t) (written_or align t) spans (input_of m f None target)

abbrev pub store_by : ModuleView → FunctionView → Ty → Val → Val → ℕ → Option ℕ → Act
store_by m f t v target align (Some k) = act.StoreSlot (written_or align t) (input_of m f (width_of t) v) k
store_by m f t v target align None = act.Store (bytes_of t) (written_or align t) (input_of m f (width_of t) v) (input_of m f None target)

-- the same of a type as it is spelled
abbrev pub load_of : ModuleView → FunctionView → Ty → Val → ℕ → Option (List ℕ) → Act
load_of m f over target align range =
    load_by m f (meant m.types over) target align (spans_of m (number_width (meant m.types over)) range) (slot_place f target)

abbrev pub store_of : ModuleView → FunctionView → Ty → Val → Val → ℕ → Act
store_of m f over v target align = store_by m f (meant m.types over) v target align (slot_place f target)

-- ---- calls

-- the operations with overflow, by what their names begin with
abbrev pub overflow_kind : List ℕ → Option (OverflowKind × Bool)
overflow_kind name =
    if starts_with nat_eq name (codes "llvm.uadd.") then Some (overflow.Add, false)
    else if starts_with nat_eq name (codes "llvm.sadd.") then Some (overflow.Add, true)
    else if starts_with nat_eq name (codes "llvm.usub.") then Some (overflow.Sub, false)
    else if starts_with nat_eq name (codes "llvm.ssub.") then Some (overflow.Sub, true)
    else if starts_with nat_eq name (codes "llvm.umul.") then Some (overflow.Mul, false)
    else if starts_with nat_eq name (codes "llvm.smul.") then Some (overflow.Mul, true)
    else None

abbrev pub pair_kind : List ℕ → Option PairKind
pair_kind name =
    if starts_with nat_eq name (codes "llvm.umin.") then Some pair.Umin
    else if starts_with nat_eq name (codes "llvm.umax.") then Some pair.Umax
    else if starts_with nat_eq name (codes "llvm.smin.") then Some pair.Smin
    else if starts_with nat_eq name (codes "llvm.smax.") then Some pair.Smax
    else if starts_with nat_eq name (codes "llvm.abs.") then Some pair.Abs
    else if starts_with nat_eq name (codes "llvm.expect.") then Some pair.Expect
    else None

-- what a listed intrinsic does with its operands; its integers have the width of the first one
abbrev pub overflow_act : ModuleView → FunctionView → OverflowKind × Bool → List (Ty × Val) → Act
overflow_act m f kind (a ∷ b ∷ []) = act.WithOverflow kind.0 kind.1 (number_width (meant m.types a.0)) (typed m f a.0 a.1) (typed m f b.0 b.1)
overflow_act m f kind _ = act.Unknown

abbrev pub pair_act : ModuleView → FunctionView → PairKind → List (Ty × Val) → Act
pair_act m f kind (a ∷ b ∷ []) = act.Pair kind (number_width (meant m.types a.0)) (typed m f a.0 a.1) (typed m f b.0 b.1)
pair_act m f kind _ = act.Unknown

abbrev pub assume_act : ModuleView → FunctionView → List (Ty × Val) → Act
assume_act m f (c ∷ []) = act.Assume (typed m f c.0 c.1)
assume_act m f _ = act.Unknown

abbrev pub other_act : ModuleView → FunctionView → Option PairKind → List (Ty × Val) → Act
other_act m f (Some kind) arguments = pair_act m f kind arguments
other_act m f None arguments = assume_act m f arguments

abbrev pub intrinsic_act : ModuleView → FunctionView → Option (OverflowKind × Bool) → List ℕ → List (Ty × Val) → Act
intrinsic_act m f (Some kind) name arguments = overflow_act m f kind arguments
intrinsic_act m f None name arguments = other_act m f (pair_kind name) arguments

-- whether each function has a body
abbrev pub bodies_of : ModuleView → List Bool
bodies_of m = map (λ e. is_some e.1.body) m.functions

-- the place of the function of this name, where it has a body
abbrev pub body_place : ModuleView → List ℕ → Option ℕ
body_place m name = option_and_then (where_true (bodies_of m)) (place_of name m.functions)

-- a call of a function with a body, of a listed intrinsic, or of another declared function
abbrev pub call_by : ModuleView → FunctionView → List ℕ → List (Ty × Val) → Option ℕ → Bool → Act
call_by m f name arguments (Some k) listed = act.Call k (inputs_of m f arguments)
call_by m f name arguments None true = intrinsic_act m f (overflow_kind name) name arguments
call_by m f name arguments None false = act.Hook (inputs_of m f arguments)

-- ---- all of them

abbrev pub arm_of : ModuleView → FunctionView → Option ℕ → Val × List ℕ → Arm
arm_of m f w arm = record { input = input_of m f w arm.0; from = block_place f arm.1 }

abbrev pub arms_of : ModuleView → FunctionView → Option ℕ → List (Val × List ℕ) → List Arm
arms_of m f w arms = map (arm_of m f w) arms

abbrev pub case_of : FunctionView → ℕ → ℤ × List ℕ → Case
case_of f w c = record { number = number_in w c.0; block = block_place f c.1 }

abbrev pub cases_of : FunctionView → ℕ → List (ℤ × List ℕ) → List Case
cases_of f w cases = map (case_of f w) cases

abbrev pub binary_of : ModuleView → FunctionView → BinaryKind → Flags → ℕ → Val → Val → Act
binary_of m f kind flags w a b = act.Binary kind flags w (input_of m f (Some w) a) (input_of m f (Some w) b)

abbrev pub select_of : ModuleView → FunctionView → Val → Ty → Val → Val → Act
select_of m f c over a b = act.Select (input_of m f (Some 1) c) (typed m f over a) (typed m f over b)

abbrev pub slot_act : ModuleView → Ty → ℕ → Act
slot_act m over align = act.Slot (written_or align (meant m.types over))

abbrev pub switch_of : ModuleView → FunctionView → ℕ → Val → List ℕ → List (ℤ × List ℕ) → Act
switch_of m f w on default cases = act.Switch w (input_of m f (Some w) on) (cases_of f w cases) (block_place f default)

abbrev pub return_of : ModuleView → FunctionView → Ty → Option Val → Act
return_of m f over None = act.Return None
return_of m f over (Some v) = act.Return (Some (typed m f over v))

abbrev pub branch_of : ModuleView → FunctionView → Val → List ℕ → List ℕ → Act
branch_of m f c taken other = act.Branch (input_of m f (Some 1) c) (block_place f taken) (block_place f other)

abbrev pub phi_of : ModuleView → FunctionView → Ty → List (Val × List ℕ) → Act
phi_of m f over arms = act.Phi (arms_of m f (width_in m over) arms)

abbrev pub convert_of : ModuleView → FunctionView → ConvertKind → Flags → ℕ → ℕ → Val → Act
convert_of m f kind flags from to a = act.Convert kind flags from to (input_of m f (Some from) a)

abbrev pub freeze_of : ModuleView → FunctionView → Ty → Val → Act
freeze_of m f over a = act.Freeze (typed m f over a)

abbrev pub offset_of : ModuleView → FunctionView → Form → Act
offset_of m f a = act.Address (form_input m f a)

abbrev pub act_of : ModuleView → FunctionView → plain.Act → Act
act_of m f (plain.binary kind flags w a b) = binary_of m f kind flags w a b
act_of m f (plain.compare samesign p over a b) = compare_by m f samesign p (width_in m over) (is_pointer (meant m.types over)) a b
act_of m f (plain.select c over a b) = select_of m f c over a b
act_of m f (plain.convert kind flags from to a) = convert_of m f kind flags from to a
act_of m f (plain.freeze over a) = freeze_of m f over a
act_of m f (plain.phi over arms) = phi_of m f over arms
act_of m f (plain.slot over align) = slot_act m over align
act_of m f (plain.load over target align range) = load_of m f over target align range
act_of m f (plain.store over v target align) = store_of m f over v target align
act_of m f (plain.offset a) = offset_of m f a
act_of m f (plain.call over name arguments) = call_by m f name arguments (body_place m name) (is_some (intrinsic_of name))
act_of m f (plain.extract w from part) = extract_of (register_place f from) part
act_of m f (plain.goto b) = act.Goto (block_place f b)
act_of m f (plain.branch c taken other) = branch_of m f c taken other
act_of m f (plain.switch w on default cases) = switch_of m f w on default cases
act_of m f (plain.give over value) = return_of m f over value
act_of m f plain.unreachable = act.Unreachable

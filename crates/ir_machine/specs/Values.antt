-- What operands stand for, and what instructions that leave memory alone give.
use Rattle.std.specs.Prelude.{ℕ, ◌+◌, ◌%◌, ◌<◌, ◌≤◌, Bool, true, false, ◌&&◌, ◌||◌, ◌==◌, if◌then◌else◌, nat_le, Option, Some, None, List, [], ◌∷◌, length, slice_index_or}
use Rattle.std.specs.List.{list_any}
use Rattle.ir_ast.specs.declared.instr.Predicate.{Predicate}
use Rattle.ir_layout.specs.Bytes.{object_of, number_at}
use Rattle.ir_value.specs.declared.value.Value.{Value}
use Rattle.ir_value.specs.declared.value.Value.TheVariants.{Number, Address, Poison}
use Rattle.ir_value.specs.declared.value.Made.{Made}
use Rattle.ir_value.specs.declared.value.Made.TheVariants as made
use Rattle.ir_value.specs.declared.value.StuckReason.TheVariants.{U7, U11, U14, U16, U17}
use Rattle.ir_value.specs.declared.access.Access.{Access}
use Rattle.ir_value.specs.declared.access.Access.TheVariants.{At, Not, Nowhere}
use Rattle.ir_value.specs.Numbers.{binary, compare_numbers, convert, freeze, select, is_between}
use Rattle.ir_value.specs.Pointers.{compare_pointers, begin_at, step_of, reach}
use Rattle.ir_value.specs.Intrinsics.{with_overflow, pair, assumes}
use Rattle.ir_code.specs.declared.input.Base.{Base}
use Rattle.ir_code.specs.declared.input.Base.TheVariants.{Register, Constant, Unknown}
use Rattle.ir_code.specs.declared.input.Move.{Move}
use Rattle.ir_code.specs.declared.input.Move.TheVariants.{Begin, By}
use Rattle.ir_code.specs.declared.input.Input.{Input}
use Rattle.ir_code.specs.declared.act.Span.{Span}
use Rattle.ir_code.specs.declared.act.Act.{Act}
use Rattle.ir_code.specs.declared.act.Act.TheVariants as act
use Rattle.ir_code.specs.declared.program.Object.{Object}
use Rattle.ir_machine.specs.declared.state.Held.{Held}
use Rattle.ir_machine.specs.declared.state.Held.TheVariants as held
use Rattle.ir_machine.specs.declared.state.Computed.{Computed}
use Rattle.ir_machine.specs.declared.state.Computed.TheVariants.{Sets, Passes, Sticks, Lost}

-- the registers of a frame by their places; none is what is not set yet
abbrev pub Registers : Type 0
Registers = List (Option Held)

abbrev pub held_at : Registers → ℕ → Option Held
held_at rs k = slice_index_or rs k None

abbrev pub value_held : Option Held → Option Value
value_held (Some (held.Value v)) = Some v
value_held _ = None

-- ---- operands

abbrev pub base_value : Registers → Base → Option Value
base_value rs (Register k) = value_held (held_at rs k)
base_value rs (Constant v) = Some v
base_value rs Unknown = None

abbrev pub size_of : List (List ℕ) → ℕ → ℕ
size_of memory o = length (object_of memory o)

-- the size of the object that an address points to
abbrev pub size_at : List (List ℕ) → Value → ℕ
size_at memory (Address o x) = size_of memory o
size_at memory _ = 0

abbrev pub stepped : List (List ℕ) → Bool → Bool → ℕ → ℕ → Option Value → Value → Option Value
stepped memory inbounds nuw w each None v = None
stepped memory inbounds nuw w each (Some i) v = Some (step_of inbounds nuw (size_at memory v) w each i v)

abbrev pub moved : List (List ℕ) → Registers → Move → Value → Option Value
moved memory rs (Begin inbounds) v = Some (begin_at inbounds (size_at memory v) v)
moved memory rs (By inbounds nuw w each index) v = stepped memory inbounds nuw w each (base_value rs index) v

abbrev pub moved_all : List (List ℕ) → Registers → Option Value → List Move → Option Value
moved_all memory rs None moves = None
moved_all memory rs (Some v) [] = Some v
moved_all memory rs (Some v) (m ∷ moves) = moved_all memory rs (moved memory rs m v) moves

-- what an operand stands for
abbrev pub value_of : List (List ℕ) → Registers → Input → Option Value
value_of memory rs i = moved_all memory rs (base_value rs i.base) i.moves

-- ---- what instructions give

abbrev pub computed_by : Made → Computed
computed_by (made.Gives v) = Sets (held.Value v)
computed_by (made.Sticks r) = Sticks r
computed_by made.Lost = Lost

abbrev pub on_one : (Value → Made) → Option Value → Computed
on_one f None = Lost
on_one f (Some a) = computed_by (f a)

abbrev pub on_two : (Value → Value → Made) → Option Value → Option Value → Computed
on_two f None b = Lost
on_two f (Some a) b = on_one (f a) b

abbrev pub on_three : (Value → Value → Value → Made) → Option Value → Option Value → Option Value → Computed
on_three f None b c = Lost
on_three f (Some a) b c = on_two (f a) b c

abbrev pub given : Option Value → Computed
given None = Lost
given (Some v) = Sets (held.Value v)

abbrev pub compare_sized : List (List ℕ) → Predicate → Value → Value → Made
compare_sized memory p a b = compare_pointers p (size_at memory a) (size_at memory b) a b

-- both parts of a pair
abbrev pub pair_by : Made → Made → Computed
pair_by (made.Gives a) (made.Gives b) = Sets (held.Pair a b)
pair_by (made.Gives a) (made.Sticks r) = Sticks r
pair_by (made.Gives a) made.Lost = Lost
pair_by (made.Sticks r) b = Sticks r
pair_by made.Lost b = Lost

abbrev pub on_pair : (ℕ → Value → Value → Made) → Option Value → Option Value → Computed
on_pair f None b = Lost
on_pair f (Some a) None = Lost
on_pair f (Some a) (Some b) = pair_by (f 0 a b) (f 1 a b)

abbrev pub part_of : ℕ → Option Held → Computed
part_of part (Some (held.Pair a b)) = if part == 0 then Sets (held.Value a) else (if part == 1 then Sets (held.Value b) else Lost)
part_of part _ = Lost

abbrev pub assumed : Option Value → Computed
assumed None = Lost
assumed (Some c) = if assumes c then Passes else Sticks U17

-- ---- loads

abbrev pub is_in_any : ℕ → ℕ → List Span → Bool
is_in_any w n spans = list_any (λ s. is_between w s.low s.high n) spans

abbrev pub is_in_spans : ℕ → ℕ → Option (List Span) → Bool
is_in_spans w n None = true
is_in_spans w n (Some spans) = is_in_any w n spans

-- what was loaded, where a range is stated: a number that lies in none of its spans sticks
abbrev pub within_spans : ℕ → Option (List Span) → Value → Computed
within_spans w spans (Number n) = if is_in_spans w n spans then Sets (held.Value (Number n)) else Sticks U16
within_spans w spans v = Sets (held.Value v)

abbrev pub object_at : List Object → ℕ → Object
object_at objects o = slice_index_or objects o (record { constant = false; align = 0 })

-- the bytes of an access at an address
abbrev pub reached : List (List ℕ) → List Object → ℕ → ℕ → Value → Access
reached memory objects bytes align (Address o x) = reach (size_of memory o) (object_at objects o).align bytes align (Address o x)
reached memory objects bytes align v = reach 0 0 bytes align v

abbrev pub loaded_from : List (List ℕ) → ℕ → ℕ → Option (List Span) → Access → Computed
loaded_from memory w bytes spans (At o x) = within_spans w spans (Number (number_at bytes x (object_of memory o)))
loaded_from memory w bytes spans (Not r) = Sticks r
loaded_from memory w bytes spans Nowhere = Lost

-- the bytes of an access lie in its object
abbrev pub LiesIn : List (List ℕ) → ℕ → Access → Type 0
LiesIn memory bytes (At o x) = (o < length memory) × (x + bytes ≤ length (object_of memory o))
LiesIn memory bytes _ = Unit

-- the bytes of an integer in memory
abbrev pub are_bytes : ℕ → Bool
are_bytes n = (n == 1) || ((n == 2) || ((n == 4) || (n == 8)))

abbrev pub loaded : List (List ℕ) → List Object → ℕ → ℕ → ℕ → Option (List Span) → Option Value → Computed
loaded memory objects w bytes align spans None = Lost
loaded memory objects w bytes align spans (Some v) = if are_bytes bytes then loaded_from memory w bytes spans (reached memory objects bytes align v) else Lost

-- ---- slots

-- `align` divides the slot's alignment
abbrev pub is_aligned : ℕ → ℕ → Bool
is_aligned align slot_align = nat_le 1 align && (slot_align % align == 0)

abbrev pub slot_loaded : ℕ → Option (List Span) → Option Value → Computed
slot_loaded w spans None = Sticks U14
slot_loaded w spans (Some v) = within_spans w spans v

abbrev pub loaded_slot : ℕ → ℕ → Option (List Span) → Option Held → Computed
loaded_slot w align spans (Some (held.Slot slot_align stored)) = if is_aligned align slot_align then slot_loaded w spans stored else Sticks U7
loaded_slot w align spans _ = Lost

-- ---- arguments

-- the first operand that is poison makes a call stick
abbrev pub tried : Option Value → Computed → Computed
tried None rest = Lost
tried (Some Poison) rest = Sticks U11
tried (Some v) rest = rest

abbrev pub arguments_pass : List (List ℕ) → Registers → List Input → Computed
arguments_pass memory rs [] = Passes
arguments_pass memory rs (i ∷ is) = tried (value_of memory rs i) (arguments_pass memory rs is)

-- ---- all of them

-- what an instruction gives that neither writes nor leads elsewhere
abbrev pub computed : List (List ℕ) → List Object → Registers → Act → Computed
computed memory objects rs (act.Binary kind flags w a b) = on_two (binary flags kind w) (value_of memory rs a) (value_of memory rs b)
computed memory objects rs (act.Compare samesign p w a b) = on_two (compare_numbers samesign p w) (value_of memory rs a) (value_of memory rs b)
computed memory objects rs (act.ComparePointers p a b) = on_two (compare_sized memory p) (value_of memory rs a) (value_of memory rs b)
computed memory objects rs (act.Select c a b) = on_three select (value_of memory rs c) (value_of memory rs a) (value_of memory rs b)
computed memory objects rs (act.Convert kind flags from to a) = on_one (convert flags kind from to) (value_of memory rs a)
computed memory objects rs (act.Freeze a) = on_one freeze (value_of memory rs a)
computed memory objects rs (act.Address a) = given (value_of memory rs a)
computed memory objects rs (act.Slot align) = Sets (held.Slot align None)
computed memory objects rs (act.Load w bytes align spans address) = loaded memory objects w bytes align spans (value_of memory rs address)
computed memory objects rs (act.LoadSlot w align spans slot) = loaded_slot w align spans (held_at rs slot)
computed memory objects rs (act.WithOverflow kind signed w a b) = on_pair (with_overflow kind signed w) (value_of memory rs a) (value_of memory rs b)
computed memory objects rs (act.Pair kind w a b) = on_two (pair kind w) (value_of memory rs a) (value_of memory rs b)
computed memory objects rs (act.Assume c) = assumed (value_of memory rs c)
computed memory objects rs (act.Extract k part) = part_of part (held_at rs k)
computed memory objects rs (act.Hook arguments) = arguments_pass memory rs arguments
computed memory objects rs _ = Lost

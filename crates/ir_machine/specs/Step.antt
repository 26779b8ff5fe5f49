-- The step machine: what each instruction does to a configuration, and what a run comes to.
use Rattle.std.specs.Prelude.{ℕ, zero, suc, ◌+◌, ◌-◌, ◌*◌, ◌≡◌, ◌^◌, ◌<◌, ◌≤◌, true, ◌&&◌, ◌==◌, if◌then◌else◌, Option, Some, None, List, [], ◌∷◌, ◌++◌, map, length, slice_get, slice_set}
use Rattle.ir_layout.specs.Bytes.{object_of, with_number}
use Rattle.ir_value.specs.declared.value.Value.{Value}
use Rattle.ir_value.specs.declared.value.Value.TheVariants.{Number, Poison}
use Rattle.ir_value.specs.declared.value.StuckReason.TheVariants as u
use Rattle.ir_value.specs.declared.access.Access.{Access}
use Rattle.ir_value.specs.declared.access.Access.TheVariants.{At, Not, Nowhere}
use Rattle.ir_value.specs.Numbers.{is_width, is_number}
use Rattle.ir_code.specs.declared.input.Input.{Input}
use Rattle.ir_code.specs.declared.act.Arm.{Arm}
use Rattle.ir_code.specs.declared.act.Case.{Case}
use Rattle.ir_code.specs.declared.act.Step.{Step}
use Rattle.ir_code.specs.declared.act.Act.{Act}
use Rattle.ir_code.specs.declared.act.Act.TheVariants as act
use Rattle.ir_code.specs.declared.program.Block.{Block}
use Rattle.ir_code.specs.declared.program.Code.{Code}
use Rattle.ir_code.specs.declared.program.Object.{Object}
use Rattle.ir_code.specs.declared.program.Program.{Program}
use Rattle.ir_machine.specs.declared.state.Held.{Held}
use Rattle.ir_machine.specs.declared.state.Held.TheVariants as held
use Rattle.ir_machine.specs.declared.state.Computed.{Computed}
use Rattle.ir_machine.specs.declared.state.Computed.TheVariants as computed
use Rattle.ir_machine.specs.declared.state.Frame.{Frame}
use Rattle.ir_machine.specs.declared.state.Machine.{Machine}
use Rattle.ir_machine.specs.declared.state.End.{End}
use Rattle.ir_machine.specs.declared.state.End.TheVariants.{Returned, Stuck, Lost, Unfinished}
use Rattle.ir_machine.specs.declared.state.Next.{Next}
use Rattle.ir_machine.specs.declared.state.Next.TheVariants.{Going, Ended}
use Rattle.ir_machine.specs.declared.state.Written.{Written}
use Rattle.ir_machine.specs.declared.state.Written.TheVariants as written
use Rattle.ir_machine.specs.declared.state.Target.{Target}
use Rattle.ir_machine.specs.declared.state.Target.TheVariants as target
use Rattle.ir_machine.specs.declared.state.Head.{Head}
use Rattle.ir_machine.specs.declared.state.Head.TheVariants as head
use Rattle.ir_machine.specs.Values as values
use Rattle.ir_machine.specs.Values.{Registers, held_at, value_of, reached, are_bytes, is_aligned, object_at, arguments_pass}

-- ---- where a frame stands

abbrev pub blocks_in : Option Code → List Block
blocks_in None = []
blocks_in (Some c) = c.blocks

abbrev pub steps_in : Option Block → List Step
steps_in None = []
steps_in (Some b) = b.steps

-- the instructions of a block of a function
abbrev pub steps_of : Program → ℕ → ℕ → List Step
steps_of P f b = steps_in (slice_get (blocks_in (slice_get P.functions f)) b)

-- the instruction at which a frame stands
abbrev pub step_at : Program → Frame → Option Step
step_at P f = slice_get (steps_of P f.function f.block) f.position

-- ---- results

abbrev pub with_result : Option ℕ → Held → Registers → Registers
with_result None h rs = rs
with_result (Some k) h rs = slice_set rs k (Some h)

-- the frame behind its instruction, with these registers
abbrev pub behind : Frame → Registers → Frame
behind f rs = record f { position = f.position + 1; registers = rs }

abbrev pub going_on : Machine → Registers → Next
going_on m rs = Going (record m { top = behind m.top rs })

abbrev pub after : Step → Machine → Computed → Next
after s m (computed.Sets h) = going_on m (with_result s.result h m.top.registers)
after s m computed.Passes = going_on m m.top.registers
after s m (computed.Sticks r) = Ended (Stuck r s.line)
after s m computed.Lost = Ended Lost

-- ---- stores

abbrev pub put_value : ℕ → ℕ → ℕ → Value → Written
put_value bytes o x Poison = written.Sticks u.U9
put_value bytes o x (Number n) = if is_width (8 * bytes) && is_number (8 * bytes) n then written.Puts o x n else written.Lost
put_value bytes o x _ = written.Lost

abbrev pub store_to : List Object → ℕ → Value → Access → Written
store_to objects bytes v (At o x) = if (object_at objects o).constant then written.Sticks u.U13 else put_value bytes o x v
store_to objects bytes v (Not r) = written.Sticks r
store_to objects bytes v Nowhere = written.Lost

abbrev pub stored : List (List ℕ) → List Object → ℕ → ℕ → Option Value → Option Value → Written
stored memory objects bytes align None a = written.Lost
stored memory objects bytes align (Some v) None = written.Lost
stored memory objects bytes align (Some v) (Some a) = if are_bytes bytes then store_to objects bytes v (reached memory objects bytes align a) else written.Lost

abbrev pub write_to : List (List ℕ) → ℕ → ℕ → ℕ → ℕ → List (List ℕ)
write_to memory bytes o x n = slice_set memory o (with_number bytes x n (object_of memory o))

abbrev pub after_store : ℕ → Machine → ℕ → Written → Next
after_store line m bytes (written.Puts o x n) = Going (record m { top = behind m.top m.top.registers; memory = write_to m.memory bytes o x n })
after_store line m bytes (written.Sticks r) = Ended (Stuck r line)
after_store line m bytes written.Lost = Ended Lost

-- the bytes that are written lie in their object, and hold the number
abbrev pub PutsFit : ℕ → Written → Type 0
PutsFit bytes (written.Puts o x n) = n < 256 ^ bytes
PutsFit bytes _ = Unit

abbrev pub FitsIn : List (List ℕ) → ℕ → Written → Type 0
FitsIn memory bytes (written.Puts o x n) = (are_bytes bytes ≡ true) × (o < length memory) × (x + bytes ≤ length (object_of memory o)) × (n < 256 ^ bytes)
FitsIn memory bytes _ = Unit

-- what a slot holds after a store into it
abbrev pub put_slot : ℕ → Value → Computed
put_slot align Poison = computed.Sticks u.U9
put_slot align v = computed.Sets (held.Slot align (Some v))

abbrev pub slot_stored : ℕ → Option Value → Option Held → Computed
slot_stored align None h = computed.Lost
slot_stored align (Some v) (Some (held.Slot slot_align stored)) = if is_aligned align slot_align then put_slot slot_align v else computed.Sticks u.U7
slot_stored align (Some v) _ = computed.Lost

abbrev pub after_slot : ℕ → Machine → ℕ → Computed → Next
after_slot line m slot (computed.Sets h) = going_on m (slice_set m.top.registers slot (Some h))
after_slot line m slot (computed.Sticks r) = Ended (Stuck r line)
after_slot line m slot _ = Ended Lost

-- ---- jumps

-- the operand of the edge from a block
abbrev pub arm_from : ℕ → List Arm → Option Input
arm_from from [] = None
arm_from from (a ∷ rest) = if a.from == from then Some a.input else arm_from from rest

abbrev pub arm_value : List (List ℕ) → Registers → Option Input → Option Value
arm_value memory rs None = None
arm_value memory rs (Some i) = value_of memory rs i

abbrev pub phi_of : Option ℕ → Option Value → Head
phi_of (Some k) (Some v) = head.Reads k v
phi_of _ _ = head.Lost

-- what an instruction at the head of a block reads, where it is a phi
abbrev pub head_of : List (List ℕ) → Registers → ℕ → Option ℕ → Act → Head
head_of memory rs from result (act.Phi arms) = phi_of result (arm_value memory rs (arm_from from arms))
head_of memory rs from result _ = head.Ends

abbrev pub staged_on : Head → List (ℕ × Value) → (List (ℕ × Value) → Option (List (ℕ × Value))) → Option (List (ℕ × Value))
staged_on head.Ends found rest = Some found
staged_on head.Lost found rest = None
staged_on (head.Reads k v) found rest = rest (found ++ (k, v) ∷ [])

-- the register and the value of each phi at the head of a block, all read before any of them is set; none where one is lost
abbrev pub staged : List (List ℕ) → Registers → ℕ → List Step → List (ℕ × Value) → Option (List (ℕ × Value))
staged memory rs from [] found = Some found
staged memory rs from (s ∷ ss) found = staged_on (head_of memory rs from s.result s.act) found (staged memory rs from ss)

abbrev pub set_all : List (ℕ × Value) → Registers → Registers
set_all [] rs = rs
set_all (p ∷ ps) rs = set_all ps (slice_set rs p.0 (Some (held.Value p.1)))

abbrev pub entered_frame : Frame → ℕ → List (ℕ × Value) → Frame
entered_frame f to ps = record { function = f.function; from = f.block; block = to; position = length ps; registers = set_all ps f.registers }

abbrev pub entered : Machine → ℕ → Option (List (ℕ × Value)) → Next
entered m to None = Ended Lost
entered m to (Some ps) = Going (record m { top = entered_frame m.top to ps })

-- a jump enters a block behind its phis
abbrev pub jump : Program → Machine → ℕ → Next
jump P m to = entered m to (staged m.memory m.top.registers m.top.block (steps_of P m.top.function to) [])

abbrev pub go : Program → Machine → ℕ → Target → Next
go P m line (target.To b) = jump P m b
go P m line (target.Sticks r) = Ended (Stuck r line)
go P m line target.Lost = Ended Lost

abbrev pub branch_to : Option Value → ℕ → ℕ → Target
branch_to (Some (Number n)) taken other = if n == 0 then target.To other else (if n == 1 then target.To taken else target.Lost)
branch_to (Some Poison) taken other = target.Sticks u.U3
branch_to _ taken other = target.Lost

abbrev pub case_of : ℕ → List Case → ℕ → ℕ
case_of n [] default = default
case_of n (c ∷ cs) default = if c.number == n then c.block else case_of n cs default

abbrev pub switch_to : Option Value → List Case → ℕ → Target
switch_to (Some (Number n)) cases default = target.To (case_of n cases default)
switch_to (Some Poison) cases default = target.Sticks u.U3
switch_to _ cases default = target.Lost

-- ---- calls and returns

abbrev pub argument_held : Option Value → Option Held
argument_held None = None
argument_held (Some v) = Some (held.Value v)

abbrev pub argument_registers : List (List ℕ) → Registers → List Input → Registers
argument_registers memory rs is = map (λ i. argument_held (value_of memory rs i)) is

-- the registers of a function as it begins: its arguments, and the rest not set
abbrev pub unset : ℕ → Registers
unset zero = []
unset (suc n) = None ∷ unset n

abbrev pub first_registers : Code → Registers → Registers
first_registers c arguments = arguments ++ unset (c.registers - c.parameters)

abbrev pub begun : ℕ → Code → Registers → Frame
begun f c arguments = record { function = f; from = 0; block = 0; position = 0; registers = first_registers c arguments }

-- the caller goes on as the topmost frame below
abbrev pub pushed : Machine → Frame → Machine
pushed m top = record { top = top; below = m.top ∷ m.below; memory = m.memory }

abbrev pub call_with : ℕ → Machine → List Input → ℕ → Code → Computed → Next
call_with line m arguments g c computed.Passes =
    Going (pushed m (begun g c (argument_registers m.memory m.top.registers arguments)))
call_with line m arguments g c (computed.Sticks r) = Ended (Stuck r line)
call_with line m arguments g c _ = Ended Lost

abbrev pub call_code : ℕ → Machine → List Input → ℕ → Code → Next
call_code line m arguments g c =
    if length arguments == c.parameters then call_with line m arguments g c (arguments_pass m.memory m.top.registers arguments) else Ended Lost

abbrev pub call_of : ℕ → Machine → List Input → ℕ → Option Code → Next
call_of line m arguments g None = Ended Lost
call_of line m arguments g (Some c) = call_code line m arguments g c

abbrev pub with_value : Option ℕ → Option Value → Registers → Registers
with_value result None rs = rs
with_value result (Some v) rs = with_result result (held.Value v) rs

-- the caller goes on behind its call
abbrev pub resumed : List (List ℕ) → Option Value → Frame → List Frame → Option Step → Next
resumed memory v caller below None = Ended Lost
resumed memory v caller below (Some s) = Going (record { top = behind caller (with_value s.result v caller.registers); below = below; memory = memory })

abbrev pub return_to : Program → Machine → Option Value → List Frame → Next
return_to P m v [] = Ended (Returned v m.memory)
return_to P m v (caller ∷ below) = resumed m.memory v caller below (step_at P caller)

abbrev pub return_value : Program → ℕ → Machine → Option Value → Next
return_value P line m None = Ended Lost
return_value P line m (Some Poison) = Ended (Stuck u.U10 line)
return_value P line m (Some v) = return_to P m (Some v) m.below

abbrev pub return_of : Program → ℕ → Machine → Option Input → Next
return_of P line m None = return_to P m None m.below
return_of P line m (Some i) = return_value P line m (value_of m.memory m.top.registers i)

-- ---- steps

abbrev pub act_on : Program → Machine → Step → Act → Next
act_on P m s (act.Store bytes align value address) =
    after_store s.line m bytes (stored m.memory P.objects bytes align (value_of m.memory m.top.registers value) (value_of m.memory m.top.registers address))
act_on P m s (act.StoreSlot align value slot) =
    after_slot s.line m slot (slot_stored align (value_of m.memory m.top.registers value) (held_at m.top.registers slot))
act_on P m s (act.Goto b) = jump P m b
act_on P m s (act.Branch c taken other) = go P m s.line (branch_to (value_of m.memory m.top.registers c) taken other)
act_on P m s (act.Switch w on cases default) = go P m s.line (switch_to (value_of m.memory m.top.registers on) cases default)
act_on P m s (act.Call g arguments) = call_of s.line m arguments g (slice_get P.functions g)
act_on P m s (act.Return value) = return_of P s.line m value
act_on P m s act.Unreachable = Ended (Stuck u.U4 s.line)
act_on P m s a = after s m (values.computed m.memory P.objects m.top.registers a)

abbrev pub step_of : Program → Machine → Option Step → Next
step_of P m None = Ended Lost
step_of P m (Some s) = act_on P m s s.act

abbrev pub step : Program → Machine → Next
step P m = step_of P m (step_at P m.top)

abbrev pub then_run : Next → (Machine → End) → End
then_run (Going m) rest = rest m
then_run (Ended end) rest = end

-- at most so many steps
abbrev pub run : Program → ℕ → Machine → End
run P zero m = Unfinished
run P (suc n) m = then_run (step P m) (run P n)

abbrev pub start : Code → ℕ → List ℕ → List (List ℕ) → Machine
start c f arguments memory = record { top = begun f c (map (λ n. Some (held.Value (Number n))) arguments); below = []; memory = memory }

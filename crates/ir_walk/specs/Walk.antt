-- The walk: a run of a function that visits each block once, in a given order, under the edge that was taken, with calls in their places.
use Rattle.std.specs.Prelude.{ℕ, zero, suc, ◌==◌, if◌then◌else◌, Option, Some, None, List, [], ◌∷◌, length, drop, slice_get, slice_set}
use Rattle.ir_value.specs.declared.value.Value.{Value}
use Rattle.ir_value.specs.declared.value.Value.TheVariants.{Poison}
use Rattle.ir_value.specs.declared.value.StuckReason.TheVariants as u
use Rattle.ir_code.specs.declared.input.Input.{Input}
use Rattle.ir_code.specs.declared.act.Step.{Step}
use Rattle.ir_code.specs.declared.act.Act.{Act}
use Rattle.ir_code.specs.declared.act.Act.TheVariants as act
use Rattle.ir_code.specs.declared.program.Code.{Code}
use Rattle.ir_code.specs.declared.program.Program.{Program}
use Rattle.ir_machine.specs.declared.state.Computed.{Computed}
use Rattle.ir_machine.specs.declared.state.Computed.TheVariants as computed
use Rattle.ir_machine.specs.declared.state.Written.{Written}
use Rattle.ir_machine.specs.declared.state.Written.TheVariants as written
use Rattle.ir_machine.specs.declared.state.Target.{Target}
use Rattle.ir_machine.specs.declared.state.Target.TheVariants as target
use Rattle.ir_machine.specs.declared.state.Machine.{Machine}
use Rattle.ir_machine.specs.declared.state.End.{End}
use Rattle.ir_machine.specs.declared.state.End.TheVariants.{Returned, Stuck, Lost, Unfinished}
use Rattle.ir_machine.specs.Values as values
use Rattle.ir_machine.specs.Values.{Registers, held_at, value_of, arguments_pass}
use Rattle.ir_machine.specs.Step.{steps_of, with_result, with_value, stored, write_to, slot_stored, staged, set_all, branch_to, switch_to, argument_registers, first_registers, start}

abbrev pub Memory : Type 0
Memory = List (List ℕ)

-- where a walk of a function stands: on its way to a place of a block, back at its caller, or at the end of the run
pub data Flow : Type 0 where
  Goes : (to position : ℕ) (registers : Registers) (memory : Memory) → Flow
  Back : (value : Option Value) (memory : Memory) → Flow
  Stops : (end : End) → Flow

-- what a called function comes to, from its first registers and the memory
abbrev pub Callee : Type 0
Callee = ℕ → Registers → Memory → Flow

-- what the instructions behind one come to
abbrev pub Behind : Type 0
Behind = Registers → Memory → Flow

-- ---- instructions

abbrev pub on_computed : Step → Registers → Memory → Behind → Computed → Flow
on_computed s rs memory go (computed.Sets h) = go (with_result s.result h rs) memory
on_computed s rs memory go computed.Passes = go rs memory
on_computed s rs memory go (computed.Sticks r) = Stops (Stuck r s.line)
on_computed s rs memory go computed.Lost = Stops Lost

abbrev pub on_store : ℕ → ℕ → Registers → Memory → Behind → Written → Flow
on_store line bytes rs memory go (written.Puts o x n) = go rs (write_to memory bytes o x n)
on_store line bytes rs memory go (written.Sticks r) = Stops (Stuck r line)
on_store line bytes rs memory go written.Lost = Stops Lost

abbrev pub on_slot : ℕ → ℕ → Registers → Memory → Behind → Computed → Flow
on_slot line slot rs memory go (computed.Sets h) = go (slice_set rs slot (Some h)) memory
on_slot line slot rs memory go (computed.Sticks r) = Stops (Stuck r line)
on_slot line slot rs memory go _ = Stops Lost

-- a block is entered behind its phis
abbrev pub on_entry : ℕ → Registers → Memory → Option (List (ℕ × Value)) → Flow
on_entry to rs memory None = Stops Lost
on_entry to rs memory (Some ps) = Goes to (length ps) (set_all ps rs) memory

abbrev pub on_jump : Program → ℕ → ℕ → ℕ → Registers → Memory → Flow
on_jump P f from to rs memory = on_entry to rs memory (staged memory rs from (steps_of P f to) [])

abbrev pub on_target : Program → ℕ → ℕ → ℕ → Registers → Memory → Target → Flow
on_target P f from line rs memory (target.To to) = on_jump P f from to rs memory
on_target P f from line rs memory (target.Sticks r) = Stops (Stuck r line)
on_target P f from line rs memory target.Lost = Stops Lost

-- the caller goes on behind its call
abbrev pub on_back : Step → Registers → Behind → Flow → Flow
on_back s rs go (Goes to position registers memory) = Stops Unfinished
on_back s rs go (Back v memory) = go (with_value s.result v rs) memory
on_back s rs go (Stops end) = Stops end

abbrev pub on_passed : Callee → Step → ℕ → Registers → Memory → Behind → Registers → Computed → Flow
on_passed W s g rs memory go first computed.Passes = on_back s rs go (W g first memory)
on_passed W s g rs memory go first (computed.Sticks r) = Stops (Stuck r s.line)
on_passed W s g rs memory go first _ = Stops Lost

abbrev pub on_call : Callee → Step → ℕ → List Input → Registers → Memory → Behind → Option Code → Flow
on_call W s g arguments rs memory go None = Stops Lost
on_call W s g arguments rs memory go (Some c) =
    if length arguments == c.parameters
    then on_passed W s g rs memory go (first_registers c (argument_registers memory rs arguments)) (arguments_pass memory rs arguments)
    else Stops Lost

abbrev pub on_value : ℕ → Memory → Option Value → Flow
on_value line memory None = Stops Lost
on_value line memory (Some Poison) = Stops (Stuck u.U10 line)
on_value line memory (Some v) = Back (Some v) memory

abbrev pub on_return : ℕ → Registers → Memory → Option Input → Flow
on_return line rs memory None = Back None memory
on_return line rs memory (Some i) = on_value line memory (value_of memory rs i)

-- what an instruction of block b of function f comes to
abbrev pub walk_act : Callee → Program → ℕ → ℕ → Step → Registers → Memory → Behind → Act → Flow
walk_act W P f b s rs memory go (act.Store bytes align value address) =
    on_store s.line bytes rs memory go (stored memory P.objects bytes align (value_of memory rs value) (value_of memory rs address))
walk_act W P f b s rs memory go (act.StoreSlot align value slot) =
    on_slot s.line slot rs memory go (slot_stored align (value_of memory rs value) (held_at rs slot))
walk_act W P f b s rs memory go (act.Goto to) = on_jump P f b to rs memory
walk_act W P f b s rs memory go (act.Branch c taken other) = on_target P f b s.line rs memory (branch_to (value_of memory rs c) taken other)
walk_act W P f b s rs memory go (act.Switch w on cases default) =
    on_target P f b s.line rs memory (switch_to (value_of memory rs on) cases default)
walk_act W P f b s rs memory go (act.Call g arguments) = on_call W s g arguments rs memory go (slice_get P.functions g)
walk_act W P f b s rs memory go (act.Return value) = on_return s.line rs memory value
walk_act W P f b s rs memory go act.Unreachable = Stops (Stuck u.U4 s.line)
walk_act W P f b s rs memory go a = on_computed s rs memory go (values.computed memory P.objects rs a)

-- ---- blocks

-- the instructions of a block, one after the other
abbrev pub walk_steps : Callee → Program → ℕ → ℕ → List Step → Registers → Memory → Flow
walk_steps W P f b [] rs memory = Stops Lost
walk_steps W P f b (s ∷ ss) rs memory = walk_act W P f b s rs memory (walk_steps W P f b ss) s.act

-- a block, where the walk goes to it
abbrev pub visit : Callee → Program → ℕ → ℕ → Flow → Flow
visit W P f b (Goes to position rs memory) =
    if to == b then walk_steps W P f b (drop position (steps_of P f b)) rs memory else Goes to position rs memory
visit W P f b (Back v memory) = Back v memory
visit W P f b (Stops end) = Stops end

abbrev pub visit_all : Callee → Program → ℕ → List ℕ → Flow → Flow
visit_all W P f [] flow = flow
visit_all W P f (b ∷ order) flow = visit_all W P f order (visit W P f b flow)

-- ---- functions

-- function f from these registers and this memory, its blocks in the order of f, with calls less than n deep
abbrev pub walk : Program → (ℕ → List ℕ) → ℕ → Callee
walk P order zero f rs memory = Stops Unfinished
walk P order (suc n) f rs memory = visit_all (walk P order n) P f (order f) (Goes 0 0 rs memory)

-- the end that a walk of the first function comes to
abbrev pub end_of : Flow → End
end_of (Goes to position rs memory) = Unfinished
end_of (Back v memory) = Returned v memory
end_of (Stops end) = end

-- the configuration at the beginning of function f, with no frame below
abbrev pub begins : ℕ → Registers → Memory → Machine
begins f rs memory = record { top = record { function = f; from = 0; block = 0; position = 0; registers = rs }; below = []; memory = memory }

-- what the walk comes to of a function that is called with these numbers
abbrev pub end_of_walk : Program → (ℕ → List ℕ) → ℕ → Code → ℕ → List ℕ → Memory → End
end_of_walk P order n c f arguments memory = end_of (walk P order n f (start c f arguments memory).top.registers memory)

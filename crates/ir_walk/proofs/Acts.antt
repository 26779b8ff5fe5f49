-- What each instruction leads to is what the walk says of it.
use Rattle.std.proofs.Common.{◌≡◌, ℕ, ◌+◌, ◌==◌, if◌then◌else◌, Bool, true, false, List, [], ◌∷◌, length, slice_get, Option, Some, None, refl, ◌∙◌, subst, arith}
use Rattle.ir_value.specs.declared.value.Value.{Value}
use Rattle.ir_value.specs.declared.value.Value.TheVariants.{Poison}
use Rattle.ir_code.specs.declared.input.Input.{Input}
use Rattle.ir_code.specs.declared.act.Step.{Step}
use Rattle.ir_code.specs.declared.act.Act.{Act}
use Rattle.ir_code.specs.declared.act.Act.TheVariants as act
use Rattle.ir_code.specs.declared.program.Code.{Code}
use Rattle.ir_code.specs.declared.program.Program.{Program}
use Rattle.ir_machine.specs.declared.state.Computed.{Computed}
use Rattle.ir_machine.specs.declared.state.Computed.TheVariants as computed
use Rattle.ir_machine.specs.declared.state.Written.{Written}
use Rattle.ir_machine.specs.declared.state.Written.TheVariants as written
use Rattle.ir_machine.specs.declared.state.Target.{Target}
use Rattle.ir_machine.specs.declared.state.Target.TheVariants as target
use Rattle.ir_machine.specs.declared.state.Frame.{Frame}
use Rattle.ir_machine.specs.declared.state.Machine.{Machine}
use Rattle.ir_machine.specs.declared.state.End.{End}
use Rattle.ir_machine.specs.declared.state.End.TheVariants.{Lost}
use Rattle.ir_machine.specs.declared.state.Next.TheVariants.{Going, Ended}
use Rattle.ir_machine.specs.Values as values
use Rattle.ir_machine.specs.Values.{Registers, held_at, value_of, arguments_pass}
use Rattle.ir_machine.specs.Step.{steps_of, step_at, step, after, after_store, after_slot, entered, staged, go as goes, branch_to, switch_to, stored, slot_stored, with_value, resumed, return_to, return_value, return_of, call_with, call_of, argument_registers, first_registers, act_on}
use Rattle.ir_walk.specs.Walk.{Memory, Flow, Goes, Back, Stops, Callee, Behind, on_computed, on_store, on_slot, on_entry, on_target, on_back, on_passed, on_call, on_value, on_return, walk_act}
use Rattle.ir_walk.specs.LoopFree.{weight, is_terminator}
use Rattle.ir_walk.proofs.Comes.{Comes, Leads, IsFine, AreCalled, standing, came_back, one_step, comes_on, longer}

module _ (P : Program) (f from b p : ℕ) (rs : Registers) (memory : Memory) (below : List Frame) (s : Step) (go : Behind) (rest : ℕ) where
  abbrev here : Machine
  here = standing f from b p rs memory below

  -- the instructions behind this one do what the walk says
  abbrev Ahead : Type 0
  Ahead = (rs' : Registers) (memory' : Memory) → IsFine (go rs' memory') → Leads P f below (standing f from b (p + 1) rs' memory' below) rest (go rs' memory')

  onward : (more : Machine) (flow : Flow) → step P here ≡ Going more → Leads P f below more rest flow → Leads P f below here (1 + rest) flow
  onward more flow e l = record { from = l.from; comes = comes_on P here more 1 rest _ (one_step P here (Going more) e) l.comes }

  ended : (end : End) → step P here ≡ Ended end → Leads P f below here (1 + rest) (Stops end)
  ended end e = record { from = 0; comes = longer P here 1 (1 + rest) _ (omega arith) (one_step P here (Ended end) e) }

  computed_leads : (c : Computed) → step P here ≡ after s here c → IsFine (on_computed s rs memory go c) → Ahead
      → Leads P f below here (1 + rest) (on_computed s rs memory go c)
  computed_leads (computed.Sets h) e fine ahead = onward _ _ e (ahead _ _ fine)
  computed_leads computed.Passes e fine ahead = onward _ _ e (ahead _ _ fine)
  computed_leads (computed.Sticks r) e fine ahead = ended _ e
  computed_leads computed.Lost e fine ahead = ended _ e

  store_leads : (bytes : ℕ) (w : Written) → step P here ≡ after_store s.line here bytes w → IsFine (on_store s.line bytes rs memory go w) → Ahead
      → Leads P f below here (1 + rest) (on_store s.line bytes rs memory go w)
  store_leads bytes (written.Puts o x n) e fine ahead = onward _ _ e (ahead _ _ fine)
  store_leads bytes (written.Sticks r) e fine ahead = ended _ e
  store_leads bytes written.Lost e fine ahead = ended _ e

  slot_leads : (slot : ℕ) (c : Computed) → step P here ≡ after_slot s.line here slot c → IsFine (on_slot s.line slot rs memory go c) → Ahead
      → Leads P f below here (1 + rest) (on_slot s.line slot rs memory go c)
  slot_leads slot (computed.Sets h) e fine ahead = onward _ _ e (ahead _ _ fine)
  slot_leads slot computed.Passes e fine ahead = ended _ e
  slot_leads slot (computed.Sticks r) e fine ahead = ended _ e
  slot_leads slot computed.Lost e fine ahead = ended _ e

  entry_leads : (to : ℕ) (o : Option (List (ℕ × Value))) → step P here ≡ entered here to o → Leads P f below here (1 + rest) (on_entry to rs memory o)
  entry_leads to None e = ended _ e
  entry_leads to (Some ps) e = record { from = b; comes = longer P here 1 (1 + rest) _ (omega arith) (one_step P here _ e) }

  target_leads : (t : Target) → step P here ≡ goes P here s.line t → Leads P f below here (1 + rest) (on_target P f b s.line rs memory t)
  target_leads (target.To to) e = entry_leads to (staged memory rs b (steps_of P f to) []) e
  target_leads (target.Sticks r) e = ended _ e
  target_leads target.Lost e = ended _ e

  back_is : (v : Option Value) (fs : List Frame) → return_to P here v fs ≡ came_back P memory v fs
  back_is v [] = refl
  back_is v (caller ∷ fs) = refl

  back_leads : (v : Option Value) → step P here ≡ return_to P here v below → Leads P f below here (1 + rest) (Back v memory)
  back_leads v e = record { from = 0; comes = longer P here 1 (1 + rest) _ (omega arith) (one_step P here _ (e ∙ back_is v below)) }

  value_leads : (o : Option Value) → step P here ≡ return_value P s.line here o → Leads P f below here (1 + rest) (on_value s.line memory o)
  value_leads None e = ended _ e
  value_leads (Some Poison) e = ended _ e
  value_leads (Some v) e = back_leads (Some v) e

  return_leads : (o : Option Input) → step P here ≡ return_of P s.line here o → Leads P f below here (1 + rest) (on_return s.line rs memory o)
  return_leads None e = back_leads None e
  return_leads (Some i) e = value_leads (value_of memory rs i) e

  module _ (W : Callee) (E : ℕ → ℕ) (at : step_at P here.top ≡ Some s) where
    called_leads : (g : ℕ) (begin : Machine) (flow : Flow) → Leads P g (here.top ∷ below) begin (E g) flow → IsFine (on_back s rs go flow) → Ahead
        → Leads P f below begin (E g + rest) (on_back s rs go flow)
    called_leads g begin (Goes to position rs' memory') l fine ahead = absurd (fine refl)
    called_leads g begin (Back v memory') l fine ahead =
        let a = ahead (with_value s.result v rs) memory' fine in
        let back = subst (λ o. Comes P begin (E g) (resumed memory' v here.top below o)) at l.comes in
        record { from = a.from; comes = comes_on P begin _ (E g) rest _ back a.comes }
    called_leads g begin (Stops end) l fine ahead = record { from = 0; comes = longer P begin (E g) (E g + rest) _ (omega arith) l.comes }

    fine_callee : (flow : Flow) → IsFine (on_back s rs go flow) → IsFine flow
    fine_callee (Goes to position rs' memory') fine = tt
    fine_callee (Back v memory') fine = tt
    fine_callee (Stops end) fine = fine

    passed_leads : (g : ℕ) (c : Code) (arguments : List Input) (t : Computed) → AreCalled P E W
        → step P here ≡ call_with s.line here arguments g c t
        → IsFine (on_passed W s g rs memory go (first_registers c (argument_registers memory rs arguments)) t) → Ahead
        → Leads P f below here (1 + E g + rest) (on_passed W s g rs memory go (first_registers c (argument_registers memory rs arguments)) t)
    passed_leads g c arguments computed.Passes called e fine ahead =
        let first = first_registers c (argument_registers memory rs arguments) in
        let begin = standing g 0 0 0 first memory (here.top ∷ below) in
        let callee = called g first memory (here.top ∷ below) (fine_callee (W g first memory) fine) in
        let l = called_leads g begin (W g first memory) callee fine ahead in
        record { from = l.from; comes = longer P here (1 + (E g + rest)) (1 + E g + rest) _ (omega arith) (comes_on P here begin 1 (E g + rest) _ (one_step P here _ e) l.comes) }
    passed_leads g c arguments (computed.Sticks r) called e fine ahead = record { from = 0; comes = longer P here 1 (1 + E g + rest) _ (omega arith) (one_step P here _ e) }
    passed_leads g c arguments (computed.Sets h) called e fine ahead = record { from = 0; comes = longer P here 1 (1 + E g + rest) _ (omega arith) (one_step P here _ e) }
    passed_leads g c arguments computed.Lost called e fine ahead = record { from = 0; comes = longer P here 1 (1 + E g + rest) _ (omega arith) (one_step P here _ e) }

    tested_leads : (g : ℕ) (c : Code) (arguments : List Input) (t : Bool) → AreCalled P E W
        → step P here ≡ (if t then call_with s.line here arguments g c (arguments_pass memory rs arguments) else Ended Lost)
        → IsFine (if t then on_passed W s g rs memory go (first_registers c (argument_registers memory rs arguments)) (arguments_pass memory rs arguments) else Stops Lost) → Ahead
        → Leads P f below here (1 + E g + rest) (if t then on_passed W s g rs memory go (first_registers c (argument_registers memory rs arguments)) (arguments_pass memory rs arguments) else Stops Lost)
    tested_leads g c arguments true called e fine ahead = passed_leads g c arguments (arguments_pass memory rs arguments) called e fine ahead
    tested_leads g c arguments false called e fine ahead = record { from = 0; comes = longer P here 1 (1 + E g + rest) _ (omega arith) (one_step P here _ e) }

    call_leads : (g : ℕ) (arguments : List Input) (o : Option Code) → AreCalled P E W → step P here ≡ call_of s.line here arguments g o
        → IsFine (on_call W s g arguments rs memory go o) → Ahead → Leads P f below here (1 + E g + rest) (on_call W s g arguments rs memory go o)
    call_leads g arguments None called e fine ahead = record { from = 0; comes = longer P here 1 (1 + E g + rest) _ (omega arith) (one_step P here _ e) }
    call_leads g arguments (Some c) called e fine ahead = tested_leads g c arguments (length arguments == c.parameters) called e fine ahead

    pub act_leads : (a : Act) → AreCalled P E W → step P here ≡ act_on P here s a → IsFine (walk_act W P f b s rs memory go a)
        → (is_terminator a ≡ false → Ahead) → Leads P f below here (weight E a + rest) (walk_act W P f b s rs memory go a)
    act_leads (act.Store bytes align value address) called e fine ahead =
        store_leads bytes (stored memory P.objects bytes align (value_of memory rs value) (value_of memory rs address)) e fine (ahead refl)
    act_leads (act.StoreSlot align value slot) called e fine ahead = slot_leads slot (slot_stored align (value_of memory rs value) (held_at rs slot)) e fine (ahead refl)
    act_leads (act.Goto to) called e fine ahead = entry_leads to (staged memory rs b (steps_of P f to) []) e
    act_leads (act.Branch c taken other) called e fine ahead = target_leads (branch_to (value_of memory rs c) taken other) e
    act_leads (act.Switch w on cases default) called e fine ahead = target_leads (switch_to (value_of memory rs on) cases default) e
    act_leads (act.Call g arguments) called e fine ahead = call_leads g arguments (slice_get P.functions g) called e fine (ahead refl)
    act_leads (act.Return value) called e fine ahead = return_leads value e
    act_leads act.Unreachable called e fine ahead = ended _ e
    act_leads a called e fine ahead = computed_leads (values.computed memory P.objects rs a) e fine (ahead refl)

-- What holds of each flow that the instructions of a block come to, if it holds of each way out.
use Rattle.std.proofs.Common.{◌≡◌, ℕ, zero, suc, ◌<◌, ◌==◌, if◌then◌else◌, Bool, true, false, List, [], ◌∷◌, map, length, slice_get, slice_index_or, Contains, Option, Some, None, refl, arith}
use Rattle.std.proofs.lemmas.List.Elements.{Contains-append_right}
use Rattle.ir_value.specs.declared.value.Value.{Value}
use Rattle.ir_value.specs.declared.value.Value.TheVariants.{Number, Poison}
use Rattle.ir_value.specs.declared.value.StuckReason.{StuckReason}
use Rattle.ir_value.specs.declared.value.StuckReason.TheVariants as u
use Rattle.ir_code.specs.declared.input.Input.{Input}
use Rattle.ir_code.specs.declared.act.Case.{Case}
use Rattle.ir_code.specs.declared.act.Step.{Step}
use Rattle.ir_code.specs.declared.act.Act.{Act}
use Rattle.ir_code.specs.declared.act.Act.TheVariants as act
use Rattle.ir_code.specs.declared.program.Code.{Code}
use Rattle.ir_code.specs.declared.program.Program.{Program}
use Rattle.ir_machine.specs.declared.state.Computed.{Computed}
use Rattle.ir_machine.specs.declared.state.Computed.TheVariants as computed
use Rattle.ir_machine.specs.declared.state.Written.{Written}
use Rattle.ir_machine.specs.declared.state.Written.TheVariants as written
use Rattle.ir_machine.specs.declared.state.Target.TheVariants as target
use Rattle.ir_machine.specs.declared.state.End.TheVariants.{Stuck, Lost, Unfinished}
use Rattle.ir_machine.specs.Values as values
use Rattle.ir_machine.specs.Values.{Registers, held_at, value_of, arguments_pass}
use Rattle.ir_machine.specs.Step.{stored, slot_stored, branch_to, case_of, switch_to, argument_registers, first_registers}
use Rattle.ir_walk.specs.Walk.{Memory, Flow, Goes, Back, Stops, Callee, Behind, on_computed, on_store, on_slot, on_jump, on_target, on_back, on_passed, on_call, on_value, on_return, walk_act, walk_steps}
use Rattle.ir_walk.specs.LoopFree.{targets, callees}

pub head_in : {X : Type 0} (x : X) (xs : List X) → Contains (x ∷ xs) x
head_in x xs = (0, omega (arith), refl)

pub tail_in : {X : Type 0} (y : X) (xs : List X) (x : X) → Contains xs x → Contains (y ∷ xs) x
tail_in y xs x c = Contains-append_right (y ∷ []) xs x c

-- one more behind the first
skip : {X : Type 0} (x y : X) (ys : List X) (z : X) (k : ℕ) → k < length (x ∷ ys) → slice_index_or (x ∷ ys) k z ≡ z → Contains (x ∷ y ∷ ys) z
skip x y ys z zero l e = (0, omega (arith), e)
skip x y ys z (suc k) l e = (suc (suc k), omega (arith, l), e)

one_of : {X : Type 0} (xs : List X) (t : Bool) (x y : X) → Contains xs x → Contains xs y → Contains xs (if t then x else y)
one_of xs true x y a b = a
one_of xs false x y a b = b

pub case_in : (n : ℕ) (cases : List Case) (default : ℕ) → Contains (default ∷ map (λ c. c.block) cases) (case_of n cases default)
case_in n [] default = head_in default []
case_in n (c ∷ cs) default =
    let blocks = map (λ c'. c'.block) cs in
    let i = case_in n cs default in
    one_of (default ∷ c.block ∷ blocks) (c.number == n) c.block (case_of n cs default)
    (tail_in default (c.block ∷ blocks) c.block (head_in c.block blocks)) (skip default c.block blocks (case_of n cs default) i.0 i.1 i.2)

-- what holds at each end
pub record Holds (Q : Flow → Type 0) : Type 0 where
  pub lost : Q (Stops Lost)
  pub stuck : (r : StuckReason) (line : ℕ) → Q (Stops (Stuck r line))
  pub back : (v : Option Value) (memory : Memory) → Q (Back v memory)

-- what is asked of a callee
abbrev pub HoldsOf : (Flow → Type 0) → Flow → Type 0
HoldsOf Q (Goes to position rs memory) = Q (Stops Unfinished)
HoldsOf Q (Back v memory) = Unit
HoldsOf Q (Stops end) = Q (Stops end)

module _ (Q : Flow → Type 0) (holds : Holds Q) (W : Callee) (P : Program) (f b : ℕ) where
  -- the block may be left for this one
  abbrev pub MayJump : ℕ → Type 0
  MayJump to = (rs : Registers) (memory : Memory) → Q (on_jump P f b to rs memory)

  abbrev pub MayCall : ℕ → Type 0
  MayCall g = (rs : Registers) (memory : Memory) → HoldsOf Q (W g rs memory)

  module _ (s : Step) (rs : Registers) (memory : Memory) (go : Behind) where
    abbrev Ahead : Type 0
    Ahead = (rs' : Registers) (memory' : Memory) → Q (go rs' memory')

    computed_holds : Ahead → (c : Computed) → Q (on_computed s rs memory go c)
    computed_holds ahead (computed.Sets h) = ahead _ _
    computed_holds ahead computed.Passes = ahead _ _
    computed_holds ahead (computed.Sticks r) = holds.stuck r s.line
    computed_holds ahead computed.Lost = holds.lost

    store_holds : Ahead → (bytes : ℕ) (w : Written) → Q (on_store s.line bytes rs memory go w)
    store_holds ahead bytes (written.Puts o x n) = ahead _ _
    store_holds ahead bytes (written.Sticks r) = holds.stuck r s.line
    store_holds ahead bytes written.Lost = holds.lost

    slot_holds : Ahead → (slot : ℕ) (c : Computed) → Q (on_slot s.line slot rs memory go c)
    slot_holds ahead slot (computed.Sets h) = ahead _ _
    slot_holds ahead slot computed.Passes = holds.lost
    slot_holds ahead slot (computed.Sticks r) = holds.stuck r s.line
    slot_holds ahead slot computed.Lost = holds.lost

    branched : (taken other : ℕ) → MayJump taken → MayJump other → (zero_is one_is : Bool)
        → Q (on_target P f b s.line rs memory (if zero_is then target.To other else (if one_is then target.To taken else target.Lost)))
    branched taken other yes_ no_ true one_is = no_ rs memory
    branched taken other yes_ no_ false true = yes_ rs memory
    branched taken other yes_ no_ false false = holds.lost

    branch_holds : (taken other : ℕ) → MayJump taken → MayJump other → (o : Option Value) → Q (on_target P f b s.line rs memory (branch_to o taken other))
    branch_holds taken other yes_ no_ None = holds.lost
    branch_holds taken other yes_ no_ (Some (Number n)) = branched taken other yes_ no_ (n == 0) (n == 1)
    branch_holds taken other yes_ no_ (Some Poison) = holds.stuck u.U3 s.line
    branch_holds taken other yes_ no_ (Some v) = holds.lost

    switch_holds : (cases : List Case) (default : ℕ) → ((to : ℕ) → Contains (default ∷ map (λ c. c.block) cases) to → MayJump to)
        → (o : Option Value) → Q (on_target P f b s.line rs memory (switch_to o cases default))
    switch_holds cases default may None = holds.lost
    switch_holds cases default may (Some (Number n)) = may (case_of n cases default) (case_in n cases default) rs memory
    switch_holds cases default may (Some Poison) = holds.stuck u.U3 s.line
    switch_holds cases default may (Some v) = holds.lost

    value_holds : (o : Option Value) → Q (on_value s.line memory o)
    value_holds None = holds.lost
    value_holds (Some Poison) = holds.stuck u.U10 s.line
    value_holds (Some v) = holds.back (Some v) memory

    return_holds : (o : Option Input) → Q (on_return s.line rs memory o)
    return_holds None = holds.back None memory
    return_holds (Some i) = value_holds (value_of memory rs i)

    back_holds : Ahead → (flow : Flow) → HoldsOf Q flow → Q (on_back s rs go flow)
    back_holds ahead (Goes to position rs' memory') h = h
    back_holds ahead (Back v memory') h = ahead _ _
    back_holds ahead (Stops end) h = h

    passed_holds : Ahead → (g : ℕ) → MayCall g → (first : Registers) (c : Computed) → Q (on_passed W s g rs memory go first c)
    passed_holds ahead g may first computed.Passes = back_holds ahead (W g first memory) (may first memory)
    passed_holds ahead g may first (computed.Sticks r) = holds.stuck r s.line
    passed_holds ahead g may first (computed.Sets h) = holds.lost
    passed_holds ahead g may first computed.Lost = holds.lost

    tested_holds : Ahead → (g : ℕ) → MayCall g → (first : Registers) (c : Computed) (t : Bool) → Q (if t then on_passed W s g rs memory go first c else Stops Lost)
    tested_holds ahead g may first c true = passed_holds ahead g may first c
    tested_holds ahead g may first c false = holds.lost

    call_holds : Ahead → (g : ℕ) → MayCall g → (arguments : List Input) (o : Option Code) → Q (on_call W s g arguments rs memory go o)
    call_holds ahead g may arguments None = holds.lost
    call_holds ahead g may arguments (Some c) =
        tested_holds ahead g may (first_registers c (argument_registers memory rs arguments)) (arguments_pass memory rs arguments) (length arguments == c.parameters)

    act_holds : Ahead → (a : Act) → ((to : ℕ) → Contains (targets a) to → MayJump to) → ((g : ℕ) → Contains (callees a) g → MayCall g)
        → Q (walk_act W P f b s rs memory go a)
    act_holds ahead (act.Store bytes align value address) jumps calls =
        store_holds ahead bytes (stored memory P.objects bytes align (value_of memory rs value) (value_of memory rs address))
    act_holds ahead (act.StoreSlot align value slot) jumps calls = slot_holds ahead slot (slot_stored align (value_of memory rs value) (held_at rs slot))
    act_holds ahead (act.Goto to) jumps calls = jumps to (head_in to []) rs memory
    act_holds ahead (act.Branch c taken other) jumps calls =
        branch_holds taken other (jumps taken (head_in taken (other ∷ []))) (jumps other (tail_in taken (other ∷ []) other (head_in other []))) (value_of memory rs c)
    act_holds ahead (act.Switch w on cases default) jumps calls = switch_holds cases default jumps (value_of memory rs on)
    act_holds ahead (act.Call g arguments) jumps calls = call_holds ahead g (calls g (head_in g [])) arguments (slice_get P.functions g)
    act_holds ahead (act.Return value) jumps calls = return_holds value
    act_holds ahead act.Unreachable jumps calls = holds.stuck u.U4 s.line
    act_holds ahead a jumps calls = computed_holds ahead (values.computed memory P.objects rs a)

  pub steps_hold : (ss : List Step) → ((s : Step) (to : ℕ) → Contains ss s → Contains (targets s.act) to → MayJump to)
      → ((s : Step) (g : ℕ) → Contains ss s → Contains (callees s.act) g → MayCall g)
      → (rs : Registers) (memory : Memory) → Q (walk_steps W P f b ss rs memory)
  steps_hold [] jumps calls rs memory = holds.lost
  steps_hold (s ∷ ss) jumps calls rs memory =
      act_holds s rs memory (walk_steps W P f b ss)
      (steps_hold ss (λ s' to i. jumps s' to (tail_in s ss s' i)) (λ s' g i. calls s' g (tail_in s ss s' i)))
      s.act (λ to. jumps s to (head_in s ss)) (λ g. calls s g (head_in s ss))

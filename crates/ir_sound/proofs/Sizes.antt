-- A step, and so a run, keeps the sizes of all objects.
use Rattle.std.proofs.Common.{◌≡◌, ℕ, zero, suc, ◌==◌, if◌then◌else◌, Bool, true, false, List, [], ◌∷◌, length, map, slice_get, slice_index_or, slice_set, Option, Some, None, refl, sym, ◌∙◌, ap, subst}
use Rattle.std.proofs.lemmas.List.{length-set}
use Rattle.ir_layout.specs.Bytes.{object_of, with_number}
use Rattle.ir_value.specs.declared.value.Value.{Value}
use Rattle.ir_value.specs.declared.value.Value.TheVariants.{Number, Null, Address, Poison}
use Rattle.ir_code.specs.declared.input.Input.{Input}
use Rattle.ir_code.specs.declared.act.Step.{Step}
use Rattle.ir_code.specs.declared.act.Act.{Act}
use Rattle.ir_code.specs.declared.act.Act.TheVariants as act
use Rattle.ir_code.specs.declared.program.Code.{Code}
use Rattle.ir_code.specs.declared.program.Program.{Program}
use Rattle.ir_machine.specs.declared.state.Computed.{Computed}
use Rattle.ir_machine.specs.declared.state.Computed.TheVariants as computed
use Rattle.ir_machine.specs.declared.state.Written.{Written}
use Rattle.ir_machine.specs.declared.state.Written.TheVariants as written
use Rattle.ir_machine.specs.declared.state.Target.{Target}
use Rattle.ir_machine.specs.declared.state.Target.TheVariants as target
use Rattle.ir_machine.specs.declared.state.Frame.{Frame}
use Rattle.ir_machine.specs.declared.state.Machine.{Machine}
use Rattle.ir_machine.specs.declared.state.End.{End}
use Rattle.ir_machine.specs.declared.state.End.TheVariants.{Returned, Stuck, Lost, Unfinished}
use Rattle.ir_machine.specs.declared.state.Next.{Next}
use Rattle.ir_machine.specs.declared.state.Next.TheVariants.{Going, Ended}
use Rattle.ir_machine.specs.Values as values
use Rattle.ir_machine.specs.Values.{Registers, held_at, value_of, arguments_pass}
use Rattle.ir_machine.specs.Step.{steps_of, step_at, step, step_of, after, write_to, after_store, after_slot, entered, staged, go as goes, branch_to, switch_to, stored, slot_stored, resumed, return_to, return_value, return_of, call_with, call_of, act_on, then_run, run}
use Rattle.ir_sound.specs.Shapes.{sizes_of}

-- ---- stores

set_sizes : (memory : List (List ℕ)) (o : ℕ) (bytes : List ℕ) → length bytes ≡ length (slice_index_or memory o []) → sizes_of (slice_set memory o bytes) ≡ sizes_of memory
set_sizes [] o bytes same = refl
set_sizes (b ∷ memory) zero bytes same = ap (λ n. n ∷ sizes_of memory) same
set_sizes (b ∷ memory) (suc o) bytes same = ap (λ ns. length b ∷ ns) (set_sizes memory o bytes same)

number_size : (n at value : ℕ) (bytes : List ℕ) → length (with_number n at value bytes) ≡ length bytes
number_size zero at value bytes = refl
number_size (suc n) at value bytes = number_size n _ _ _ ∙ length-set bytes at _

written_sizes : (memory : List (List ℕ)) (bytes o x n : ℕ) → sizes_of (write_to memory bytes o x n) ≡ sizes_of memory
written_sizes memory bytes o x n = set_sizes memory o _ (number_size bytes x n (object_of memory o))

-- ---- steps

abbrev KeepEnd : List ℕ → End → Type 0
KeepEnd sizes (Returned value memory) = sizes_of memory ≡ sizes
KeepEnd sizes _ = Unit {0}

abbrev Keep : List ℕ → Next → Type 0
Keep sizes (Going m) = sizes_of m.memory ≡ sizes
Keep sizes (Ended end) = KeepEnd sizes end

module _ (P : Program) (m : Machine) where
  abbrev Kept : Next → Type 0
  Kept next = Keep (sizes_of m.memory) next

  kept_after : (s : Step) (c : Computed) → Kept (after s m c)
  kept_after s (computed.Sets h) = refl
  kept_after s computed.Passes = refl
  kept_after s (computed.Sticks r) = tt
  kept_after s computed.Lost = tt

  kept_store : (line bytes : ℕ) (w : Written) → Kept (after_store line m bytes w)
  kept_store line bytes (written.Puts o x n) = written_sizes m.memory bytes o x n
  kept_store line bytes (written.Sticks r) = tt
  kept_store line bytes written.Lost = tt

  kept_slot : (line slot : ℕ) (c : Computed) → Kept (after_slot line m slot c)
  kept_slot line slot (computed.Sets h) = refl
  kept_slot line slot computed.Passes = tt
  kept_slot line slot (computed.Sticks r) = tt
  kept_slot line slot computed.Lost = tt

  kept_entry : (to : ℕ) (staged_ : Option (List (ℕ × Value))) → Kept (entered m to staged_)
  kept_entry to None = tt
  kept_entry to (Some ps) = refl

  kept_jump : (line : ℕ) (t : Target) → Kept (goes P m line t)
  kept_jump line (target.To to) = kept_entry to _
  kept_jump line (target.Sticks r) = tt
  kept_jump line target.Lost = tt

  kept_passed : (line : ℕ) (arguments : List Input) (g : ℕ) (c : Code) (t : Computed) → Kept (call_with line m arguments g c t)
  kept_passed line arguments g c computed.Passes = refl
  kept_passed line arguments g c (computed.Sticks r) = tt
  kept_passed line arguments g c (computed.Sets h) = tt
  kept_passed line arguments g c computed.Lost = tt

  kept_tested : (line : ℕ) (arguments : List Input) (g : ℕ) (c : Code) (t : Bool)
      → Kept (if t then call_with line m arguments g c (arguments_pass m.memory m.top.registers arguments) else Ended Lost)
  kept_tested line arguments g c true = kept_passed line arguments g c (arguments_pass m.memory m.top.registers arguments)
  kept_tested line arguments g c false = tt

  kept_call : (line : ℕ) (arguments : List Input) (g : ℕ) (c : Option Code) → Kept (call_of line m arguments g c)
  kept_call line arguments g None = tt
  kept_call line arguments g (Some c) = kept_tested line arguments g c (length arguments == c.parameters)

  kept_resumed : (value : Option Value) (caller : Frame) (below : List Frame) (s : Option Step) → Kept (resumed m.memory value caller below s)
  kept_resumed value caller below None = tt
  kept_resumed value caller below (Some s) = refl

  kept_back : (value : Option Value) (below : List Frame) → Kept (return_to P m value below)
  kept_back value [] = refl
  kept_back value (caller ∷ below) = kept_resumed value caller below (step_at P caller)

  kept_value : (line : ℕ) (value : Option Value) → Kept (return_value P line m value)
  kept_value line None = tt
  kept_value line (Some Poison) = tt
  kept_value line (Some (Number n)) = kept_back (Some (Number n)) m.below
  kept_value line (Some Null) = kept_back (Some Null) m.below
  kept_value line (Some (Address o x)) = kept_back (Some (Address o x)) m.below

  kept_return : (line : ℕ) (value : Option Input) → Kept (return_of P line m value)
  kept_return line None = kept_back None m.below
  kept_return line (Some i) = kept_value line (value_of m.memory m.top.registers i)

  kept_act : (s : Step) (a : Act) → Kept (act_on P m s a)
  kept_act s (act.Store bytes align value address) = kept_store s.line bytes _
  kept_act s (act.StoreSlot align value slot) = kept_slot s.line slot _
  kept_act s (act.Goto b) = kept_entry b _
  kept_act s (act.Branch c taken other) = kept_jump s.line _
  kept_act s (act.Switch w on cases default) = kept_jump s.line _
  kept_act s (act.Call g arguments) = kept_call s.line arguments g _
  kept_act s (act.Return value) = kept_return s.line value
  kept_act s act.Unreachable = tt
  kept_act s a = kept_after s (values.computed m.memory P.objects m.top.registers a)

  kept_step : (s : Option Step) → Kept (step_of P m s)
  kept_step None = tt
  kept_step (Some s) = kept_act s s.act

-- ---- runs

kept_then : (sizes : List ℕ) (go : Machine → End) → ((m : Machine) → KeepEnd (sizes_of m.memory) (go m)) → (next : Next) → Keep sizes next → KeepEnd sizes (then_run next go)
kept_then sizes go onward (Going m) same = subst (λ s. KeepEnd s (go m)) same (onward m)
kept_then sizes go onward (Ended end) kept = kept

kept_run : (P : Program) (n : ℕ) (m : Machine) → KeepEnd (sizes_of m.memory) (run P n m)
kept_run P zero m = tt
kept_run P (suc n) m = kept_then (sizes_of m.memory) (run P n) (kept_run P n) (step P m) (kept_step P m (step_at P m.top))

pub run_keeps : (P : Program) (n : ℕ) (m : Machine) (value : Option Value) (after : List (List ℕ)) → run P n m ≡ Returned value after → sizes_of after ≡ sizes_of m.memory
run_keeps P n m value after e = subst (KeepEnd (sizes_of m.memory)) e (kept_run P n m)

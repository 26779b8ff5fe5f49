-- Runs of a text with loops, within so many turns of each call.
use Rattle.std.specs.Prelude.{◌≡◌, ℕ, zero, suc, ◌+◌, ◌<◌, Bool, true, false, not, ◌&&◌, if◌then◌else◌, nat_le, nat_lt, nat_eq, Option, Some, None, List, [], ◌∷◌, length, slice_get, slice_index_or}
use Rattle.ir_value.specs.declared.value.StuckReason.TheVariants.{U4}
use Rattle.ir_code.specs.declared.act.Step.{Step}
use Rattle.ir_code.specs.declared.act.Act.{Act}
use Rattle.ir_code.specs.declared.act.Act.TheVariants as act
use Rattle.ir_code.specs.declared.program.Program.{Program}
use Rattle.ir_machine.specs.declared.state.Machine.{Machine}
use Rattle.ir_machine.specs.declared.state.Next.{Next}
use Rattle.ir_machine.specs.declared.state.Next.TheVariants.{Going, Ended}
use Rattle.ir_machine.specs.declared.state.End.{End}
use Rattle.ir_machine.specs.declared.state.End.TheVariants.{Stuck, Unfinished}
use Rattle.ir_machine.specs.Step.{step, step_at}

-- of each function whether its blocks have a cycle, and the line of its `define`
pub record Shape : Type 0 where
  pub has_cycle : Bool
  pub line : ℕ

abbrev pub shape_of : List Shape → ℕ → Shape
shape_of shapes f = slice_index_or shapes f (record { has_cycle = false; line = 0 })

abbrev pub jumps : Option Step → Bool
jumps (Some s) = leaves s.act
  where
    leaves : Act → Bool
    leaves (act.Goto target) = true
    leaves (act.Branch condition taken other) = true
    leaves (act.Switch w on default cases) = true
    leaves _ = false
jumps None = false

-- the step from one configuration to another is a turn: a jump, in a function with a cycle, to a block that does not stand later
abbrev pub is_turn_step : Program → List Shape → Machine → Machine → Bool
is_turn_step P shapes m after =
    (shape_of shapes m.top.function).has_cycle && jumps (step_at P m.top) && nat_le after.top.block m.top.block

-- a configuration with the turns that each call under way has taken, the top one first
pub record Watched : Type 0 where
  pub machine : Machine
  pub turns : List ℕ

abbrev pub own : List ℕ → ℕ
own [] = 0
own (t ∷ ts) = t

abbrev pub callers : List ℕ → List ℕ
callers [] = []
callers (t ∷ ts) = ts

-- the turns behind a step that is no turn: a call begins with none, and a return leaves those of the caller
abbrev pub kept : Machine → Machine → List ℕ → List ℕ
kept m after turns =
    if nat_lt (length m.below) (length after.below) then 0 ∷ turns
    else if nat_lt (length after.below) (length m.below) then callers turns
    else turns

-- what a watched step leads to
pub data Bound : Type 0 where
  goes : Watched → Bound
  ends : End → Bound

-- at the first turn of a call behind its n-th the run is stuck, at the line of the `define`, as at an `unreachable` there
abbrev pub turned : ℕ → ℕ → Machine → List ℕ → Bound
turned n line after turns =
    if nat_eq (own turns) n then ends (Stuck U4 line) else goes (record { machine = after; turns = suc (own turns) ∷ callers turns })

abbrev pub bound_next : Program → List Shape → ℕ → Watched → Next → Bound
bound_next P shapes n w (Ended end) = ends end
bound_next P shapes n w (Going after) =
    if is_turn_step P shapes w.machine after
    then turned n (shape_of shapes w.machine.top.function).line after w.turns
    else goes (record { machine = after; turns = kept w.machine after w.turns })

abbrev pub then_bound : Bound → (Watched → End) → End
then_bound (goes w) rest = rest w
then_bound (ends end) rest = end

-- the looping run, of so many steps, within n turns of each call
abbrev pub bounded_run : Program → List Shape → ℕ → ℕ → Watched → End
bounded_run P shapes n zero w = Unfinished
bounded_run P shapes n (suc steps) w = then_bound (bound_next P shapes n w (step P w.machine)) (bounded_run P shapes n steps)

abbrev pub begins : Machine → Watched
begins m = record { machine = m; turns = 0 ∷ [] }

-- ---- when nothing is bounded

-- the configuration behind a step, with its turns
abbrev pub watched : Bool → Watched → Machine → Watched
watched turn w after = if turn then record { machine = after; turns = suc (own w.turns) ∷ callers w.turns } else record { machine = after; turns = kept w.machine after w.turns }

abbrev pub stays_on : (Watched → Bool) → Program → List Shape → ℕ → Watched → Next → Bool
stays_on rest P shapes n w (Ended end) = true
stays_on rest P shapes n w (Going after) =
    not (is_turn_step P shapes w.machine after && nat_eq (own w.turns) n) && rest (watched (is_turn_step P shapes w.machine after) w after)

-- within so many steps no call follows more than n turns
abbrev pub stays_within : Program → List Shape → ℕ → ℕ → Watched → Bool
stays_within P shapes n zero w = true
stays_within P shapes n (suc steps) w = stays_on (stays_within P shapes n steps) P shapes n w (step P w.machine)

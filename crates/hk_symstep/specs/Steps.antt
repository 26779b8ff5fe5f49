-- How terms answer an instruction. Where the machine is lost, at operands that are not set or are of another kind, nothing is claimed.
use Rattle.std.specs.Prelude.{◌≡◌, ℕ, Bool, true, false, not, Option, List}
use Rattle.hk_term.specs.Meaning.{Reading}
use Rattle.hk_term.specs.declared.node.Node.{Node}
use Rattle.ir_value.specs.declared.value.Value as machine_value
use Rattle.ir_value.specs.declared.value.Value.TheVariants.{Number}
use Rattle.ir_value.specs.declared.value.Made.{Made}
use Rattle.ir_value.specs.declared.value.Made.TheVariants as made
use Rattle.ir_code.specs.declared.act.Span.{Span}
use Rattle.ir_machine.specs.Values.{is_in_spans, within_spans}
use Rattle.ir_machine.specs.declared.state.Held.{Held}
use Rattle.ir_machine.specs.declared.state.Computed.{Computed}
use Rattle.ir_machine.specs.declared.state.Computed.TheVariants as machine
use Rattle.hk_symvalue.specs.Meaning.{IsTruth, is_true}
use Rattle.hk_symstep.specs.declared.state.SymComputed.{SymComputed}
use Rattle.hk_symstep.specs.declared.state.SymComputed.TheVariants.{Sets, Passes, Lost}
use Rattle.hk_symstep.specs.Held.{held_meaning, IsHeld}

-- stuck exactly where the machine sticks, and else what it sets
abbrev pub AnswersSets : Bool → Held → Computed → Type 0
AnswersSets stuck held (machine.Sets h) = (stuck ≡ false) × (held ≡ h)
AnswersSets stuck held machine.Passes = ⊥
AnswersSets stuck held (machine.Sticks reason) = stuck ≡ true
AnswersSets stuck held machine.Lost = Unit {0}

-- stuck exactly where the machine sticks; it sets nothing
abbrev pub AnswersPasses : Bool → Computed → Type 0
AnswersPasses stuck (machine.Sets h) = ⊥
AnswersPasses stuck machine.Passes = stuck ≡ false
AnswersPasses stuck (machine.Sticks reason) = stuck ≡ true
AnswersPasses stuck machine.Lost = Unit {0}

abbrev pub AnswersLost : Computed → Type 0
AnswersLost machine.Lost = Unit {0}
AnswersLost _ = ⊥

abbrev pub AnswersComputed : List Node → Reading → SymComputed → Computed → Type 0
AnswersComputed nodes v (Sets stuck held) c = AnswersSets (is_true nodes stuck v) (held_meaning nodes v held) c
AnswersComputed nodes v (Passes stuck) c = AnswersPasses (is_true nodes stuck v) c
AnswersComputed nodes v Lost c = AnswersLost c

-- its terms are in the list
abbrev pub IsComputed : List Node → SymComputed → Type 0
IsComputed nodes (Sets stuck held) = IsTruth nodes stuck × IsHeld nodes held
IsComputed nodes (Passes stuck) = IsTruth nodes stuck
IsComputed nodes Lost = Unit {0}

-- ---- loads

-- a number that lies in none of the stated spans
abbrev pub leaves_spans : ℕ → Option (List Span) → machine_value.Value → Bool
leaves_spans w spans (Number n) = not (is_in_spans w n spans)
leaves_spans w spans _ = false

-- what a load gives, against the stated spans
abbrev pub by_spans : ℕ → Option (List Span) → Made → Computed
by_spans w spans (made.Gives v) = within_spans w spans v
by_spans w spans (made.Sticks r) = machine.Sticks r
by_spans w spans made.Lost = machine.Lost

-- What a symbolic instruction's answer says of where the run goes on.
use Rattle.std.proofs.Common.{◌≡◌, ℕ, Bool, true, false, Some, refl, sym, ap}
use Rattle.std.proofs.lemmas.Bool.{false≢true}
use Rattle.ir_code.specs.declared.act.Step.{Step}
use Rattle.ir_machine.specs.declared.state.Computed.{Computed}
use Rattle.ir_machine.specs.declared.state.Computed.TheVariants as computed
use Rattle.ir_machine.specs.declared.state.Held.{Held}
use Rattle.ir_machine.specs.Values.{Registers}
use Rattle.ir_machine.specs.Step.{with_result}
use Rattle.ir_walk.specs.Walk.{Memory, Behind, on_computed, on_slot}
use Rattle.hk_symstep.specs.Steps.{AnswersSets, AnswersPasses, AnswersLost}
use Rattle.hk_symexec.specs.Tracks.{IsFineFlow, Splits}

module _ (s : Step) (rs : Registers) (memory : Memory) (go : Behind) where
  pub sets_split : (b : Bool) (h : Held) (c : Computed) → AnswersSets b h c → IsFineFlow (on_computed s rs memory go c)
      → Splits b (on_computed s rs memory go c) (go (with_result s.result h rs) memory)
  sets_split false h (computed.Sets g) (q, same) fine = ap (λ k. go (with_result s.result k rs) memory) (sym same)
  sets_split true h (computed.Sets g) (q, same) fine = absurd (false≢true (sym q))
  sets_split b h computed.Passes a fine = absurd a
  sets_split true h (computed.Sticks r) a fine = (r, s.line, refl)
  sets_split false h (computed.Sticks r) a fine = absurd (false≢true a)
  sets_split b h computed.Lost a fine = absurd fine

  pub passes_split : (b : Bool) (c : Computed) → AnswersPasses b c → IsFineFlow (on_computed s rs memory go c)
      → Splits b (on_computed s rs memory go c) (go rs memory)
  passes_split b (computed.Sets g) a fine = absurd a
  passes_split false computed.Passes a fine = refl
  passes_split true computed.Passes a fine = absurd (false≢true (sym a))
  passes_split true (computed.Sticks r) a fine = (r, s.line, refl)
  passes_split false (computed.Sticks r) a fine = absurd (false≢true a)
  passes_split b computed.Lost a fine = absurd fine

  pub lost_same : (c : Computed) → AnswersLost c → IsFineFlow (on_computed s rs memory go c) → on_computed s rs memory go c ≡ go rs memory
  lost_same (computed.Sets g) a fine = absurd a
  lost_same computed.Passes a fine = absurd a
  lost_same (computed.Sticks r) a fine = absurd a
  lost_same computed.Lost a fine = absurd fine

module _ (line slot : ℕ) (rs : Registers) (memory : Memory) (go : Behind) where
  pub slot_split : (b : Bool) (h : Held) (c : Computed) → AnswersSets b h c → IsFineFlow (on_slot line slot rs memory go c)
      → Splits b (on_slot line slot rs memory go c) (go (with_result (Some slot) h rs) memory)
  slot_split false h (computed.Sets g) (q, same) fine = ap (λ k. go (with_result (Some slot) k rs) memory) (sym same)
  slot_split true h (computed.Sets g) (q, same) fine = absurd (false≢true (sym q))
  slot_split b h computed.Passes a fine = absurd a
  slot_split true h (computed.Sticks r) a fine = (r, line, refl)
  slot_split false h (computed.Sticks r) a fine = absurd (false≢true a)
  slot_split b h computed.Lost a fine = absurd fine

  pub slot_passes : (b : Bool) (c : Computed) → AnswersPasses b c → IsFineFlow (on_slot line slot rs memory go c)
      → Splits b (on_slot line slot rs memory go c) (go rs memory)
  slot_passes b (computed.Sets g) a fine = absurd a
  slot_passes b computed.Passes a fine = absurd fine
  slot_passes true (computed.Sticks r) a fine = (r, line, refl)
  slot_passes false (computed.Sticks r) a fine = absurd (false≢true a)
  slot_passes b computed.Lost a fine = absurd fine

  pub slot_lost : (c : Computed) → AnswersLost c → IsFineFlow (on_slot line slot rs memory go c) → on_slot line slot rs memory go c ≡ go rs memory
  slot_lost (computed.Sets g) a fine = absurd a
  slot_lost computed.Passes a fine = absurd a
  slot_lost (computed.Sticks r) a fine = absurd a
  slot_lost computed.Lost a fine = absurd fine

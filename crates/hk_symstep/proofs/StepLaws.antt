-- Laws of what terms answer.
use Rattle.std.proofs.Common.{◌≡◌, ℕ, Bool, true, false, not, if◌then◌else◌, Option, Some, List, sym, ap, ◌∙◌, subst, rules}
use Rattle.ir_value.specs.declared.value.Value.{Value}
use Rattle.ir_value.specs.declared.value.StuckReason.TheVariants.{U17}
use Rattle.ir_value.specs.declared.value.Made.{Made}
use Rattle.ir_value.specs.declared.value.Made.TheVariants as made_of
use Rattle.ir_value.specs.Intrinsics.{assumes}
use Rattle.ir_machine.specs.declared.state.Held.{Held}
use Rattle.ir_machine.specs.declared.state.Held.TheVariants as held
use Rattle.ir_machine.specs.declared.state.Computed.TheVariants.{Passes, Sticks}
use Rattle.ir_machine.specs.Values.{computed_by, pair_by, assumed, on_two, on_three, loaded_slot, part_of}
use Rattle.hk_term.specs.Meaning.{Reading}
use Rattle.hk_term.specs.declared.node.Node.{Node}
use Rattle.ir_code.specs.declared.act.Span.{Span}
use Rattle.ir_machine.specs.Step.{slot_stored}
use Rattle.hk_symvalue.specs.Rows.{Answers}
use Rattle.hk_symstep.specs.declared.state.SymComputed.{SymComputed}
use Rattle.hk_symstep.specs.Steps.{AnswersSets, AnswersPasses, AnswersComputed}

pub made : (s : Bool) (x : Value) (m : Made) → Answers s x m → AnswersSets s (held.Value x) (computed_by m)
made s x (made_of.Gives y) h = (h.0, ap held.Value h.1)
made s x (made_of.Sticks r) h = h
made s x made_of.Lost h = tt

-- the same with a term that is never true
pub gives : (s : Bool) (x y : Value) (m : Made) → s ≡ false → x ≡ y → Answers false y m → AnswersSets s (held.Value x) (computed_by m)
gives s x y m e f h = subst (λ s. AnswersSets s (held.Value x) (computed_by m)) (sym e) (subst (λ x. AnswersSets false (held.Value x) (computed_by m)) (sym f) (made false y m h))

pub pairs : (s : Bool) (x y u w : Value) (m n : Made) → s ≡ false → x ≡ u → y ≡ w → Answers false u m → Answers false w n → AnswersSets s (held.Pair x y) (pair_by m n)
pairs s x y u w (made_of.Gives a) (made_of.Gives b) e f g h k = (e, λ i. held.Pair ((f ∙ h.1) i) ((g ∙ k.1) i))
pairs s x y u w (made_of.Gives a) (made_of.Sticks r) e f g h k = absurd (search rules)
pairs s x y u w (made_of.Gives a) made_of.Lost e f g h k = tt
pairs s x y u w (made_of.Sticks r) n e f g h k = absurd (search rules)
pairs s x y u w made_of.Lost n e f g h k = tt

pub assumed_by : (s : Bool) (c : Value) → s ≡ not (assumes c) → AnswersPasses s (assumed (Some c))
assumed_by s c e = at (assumes c) e
  where
    at : (b : Bool) → s ≡ not b → AnswersPasses s (if b then Passes else Sticks U17)
    at true e = e
    at false e = e

-- ---- operands that were read

module _ (nodes : List Node) (v : Reading) (r : SymComputed) where
  pub read_two : (f : Value → Value → Made) (p q x y : Option Value) → p ≡ x → q ≡ y → AnswersComputed nodes v r (on_two f p q) → AnswersComputed nodes v r (on_two f x y)
  read_two f p q x y e g h = subst (λ x. AnswersComputed nodes v r (on_two f x y)) e (subst (λ y. AnswersComputed nodes v r (on_two f p y)) g h)

  pub read_three : (f : Value → Value → Value → Made) (c p q z x y : Option Value) → c ≡ z → p ≡ x → q ≡ y → AnswersComputed nodes v r (on_three f c p q) → AnswersComputed nodes v r (on_three f z x y)
  read_three f c p q z x y d e g h =
      subst (λ z. AnswersComputed nodes v r (on_three f z x y)) d (subst (λ x. AnswersComputed nodes v r (on_three f c x y)) e (subst (λ y. AnswersComputed nodes v r (on_three f c p y)) g h))

  pub read_slot : (w align : ℕ) (spans : Option (List Span)) (p x : Option Held) → p ≡ x → AnswersComputed nodes v r (loaded_slot w align spans p) → AnswersComputed nodes v r (loaded_slot w align spans x)
  read_slot w align spans p x e h = subst (λ x. AnswersComputed nodes v r (loaded_slot w align spans x)) e h

  pub read_part : (part : ℕ) (p x : Option Held) → p ≡ x → AnswersComputed nodes v r (part_of part p) → AnswersComputed nodes v r (part_of part x)
  read_part part p x e h = subst (λ x. AnswersComputed nodes v r (part_of part x)) e h

  pub read_stored : (align : ℕ) (p x : Option Value) (q y : Option Held) → p ≡ x → q ≡ y → AnswersComputed nodes v r (slot_stored align p q) → AnswersComputed nodes v r (slot_stored align x y)
  read_stored align p x q y e g h = subst (λ x. AnswersComputed nodes v r (slot_stored align x y)) e (subst (λ y. AnswersComputed nodes v r (slot_stored align p y)) g h)

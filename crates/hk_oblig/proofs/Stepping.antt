-- What the step of a transition tells.
use Rattle.std.proofs.Common.{◌≡◌, ℕ, Option, List, subst}
use Rattle.hk_term.specs.Meaning.{Reading, value}
use Rattle.hk_term.specs.declared.node.Node.{Node}
use Rattle.spec_tree.specs.Plain.{Transition, Spec}
use Rattle.spec_tree.specs.Meaning.{State, transition}
use Rattle.hk_symspec.specs.States.{StateView, numbers_at, state_at}
use Rattle.hk_symspec.specs.Standing.{IsSteady, formula_base}
use Rattle.hk_symspec.specs.Steps.{IsStepAt}
use Rattle.hk_oblig.specs.Under.{AreNumbersAt, IsStateAt, TellStep}
use Rattle.hk_oblig.proofs.Gathering.{bit_is}

pub step_told : (s : Spec) (u : Transition) (old new : List Node) (v : Reading) (state : StateView) (args : List ℕ) (x : State) (ns : List ℕ) (valid : ℕ) (end : StateView) (result : Option ℕ)
    → IsStepAt s new valid end result v (transition s u (state_at s old state v) (numbers_at old args v)) → IsSteady formula_base s new end v
    → IsStateAt s old state v x → AreNumbersAt old args v ns → TellStep s new v valid end result (transition s u x ns)
step_told s u old new v state args x ns valid end result h steady a b =
    let is : transition s u (state_at s old state v) (numbers_at old args v) ≡ transition s u x ns = λ i. transition s u (a.same i) (b.same i) in
    let k : IsStepAt s new valid end result v (transition s u x ns) = subst (IsStepAt s new valid end result v) is h in
    record {
      valid = bit_is (value new valid v) (transition s u x ns).valid k.valid;
      state = record { same = k.state; steady = steady };
      result = k.result;
    }

-- Steps that lead from a configuration to what a walk comes to.
use Rattle.std.proofs.Common.{◌≡◌, ◌≢◌, ℕ, zero, suc, ◌+◌, ◌≤◌, List, [], ◌∷◌, drop, slice_get, Option, Some, refl, ap, ◌∙◌, subst, arith, zero-add}
use Rattle.ir_value.specs.declared.value.Value.{Value}
use Rattle.ir_code.specs.declared.act.Step.{Step}
use Rattle.ir_code.specs.declared.program.Program.{Program}
use Rattle.ir_machine.specs.declared.state.Frame.{Frame}
use Rattle.ir_machine.specs.declared.state.Machine.{Machine}
use Rattle.ir_machine.specs.declared.state.End.TheVariants.{Returned, Unfinished}
use Rattle.ir_machine.specs.declared.state.Next.{Next}
use Rattle.ir_machine.specs.declared.state.Next.TheVariants.{Going, Ended}
use Rattle.ir_machine.specs.Values.{Registers}
use Rattle.ir_machine.specs.Step.{steps_of, step_at, resumed, act_on, step_of, step, then_run, run}
use Rattle.ir_walk.specs.Walk.{Memory, Flow, Goes, Back, Stops, Callee}

-- at most so many steps lead from a configuration to what another step leads to
pub record Comes (P : Program) (m : Machine) (most : ℕ) (next : Next) : Type 0 where
  pub steps : ℕ
  pub few : steps ≤ most
  pub by : (k : ℕ) → run P (steps + k) m ≡ then_run next (run P k)

run_one : (P : Program) (m : Machine) (k : ℕ) → run P (1 + k) m ≡ then_run (step P m) (run P k)
run_one P m k =
    let Q : ℕ → Type 0 = λ j. run P j m ≡ then_run (step P m) (run P k) in
    let same : suc k ≡ 1 + k = omega (arith) in
    subst Q same refl

pub one_step : (P : Program) (m : Machine) (next : Next) → step P m ≡ next → Comes P m 1 next
one_step P m next e = record { steps = 1; few = omega arith; by = λ k. run_one P m k ∙ ap (λ x. then_run x (run P k)) e }

pub at_once : (P : Program) (m : Machine) → Comes P m 0 (Going m)
at_once P m = record { steps = 0; few = omega arith; by = λ k. ap (λ j. run P j m) (zero-add k) }

pub comes_on : (P : Program) (m more : Machine) (a b : ℕ) (next : Next) → Comes P m a (Going more) → Comes P more b next → Comes P m (a + b) next
comes_on P m more a b next x y = record {
  steps = x.steps + y.steps;
  few = omega (arith, x.few, y.few);
  by = λ k.
      let Q : ℕ → Type 0 = λ j. run P j m ≡ then_run next (run P k) in
      let same : x.steps + (y.steps + k) ≡ x.steps + y.steps + k = omega (arith) in
      subst Q same (x.by (y.steps + k) ∙ y.by k);
}

pub longer : (P : Program) (m : Machine) (a b : ℕ) (next : Next) → a ≤ b → Comes P m a next → Comes P m b next
longer P m a b next more x = record { steps = x.steps; few = omega (arith, x.few, more); by = x.by }

-- ---- what flows lead to

abbrev pub standing : ℕ → ℕ → ℕ → ℕ → Registers → Memory → List Frame → Machine
standing f from b p rs memory below =
    record { top = record { function = f; from = from; block = b; position = p; registers = rs }; below = below; memory = memory }

abbrev pub came_back : Program → Memory → Option Value → List Frame → Next
came_back P memory v [] = Ended (Returned v memory)
came_back P memory v (caller ∷ below) = resumed memory v caller below (step_at P caller)

abbrev pub next_of : Program → ℕ → ℕ → List Frame → Flow → Next
next_of P f from below (Goes to position rs memory) = Going (standing f from to position rs memory below)
next_of P f from below (Back v memory) = came_back P memory v below
next_of P f from below (Stops end) = Ended end

-- a configuration of function f leads to what a walk comes to, over the frames below
pub record Leads (P : Program) (f : ℕ) (below : List Frame) (m : Machine) (most : ℕ) (flow : Flow) : Type 0 where
  pub from : ℕ
  pub comes : Comes P m most (next_of P f from below flow)

abbrev pub IsFine : Flow → Type 0
IsFine (Goes to position rs memory) = Unit
IsFine (Back v memory) = Unit
IsFine (Stops end) = end ≢ Unfinished

-- each callee does what its walk says, however many frames are below
abbrev pub AreCalled : Program → (ℕ → ℕ) → Callee → Type 0
AreCalled P E W = (g : ℕ) (rs : Registers) (memory : Memory) (below : List Frame) → IsFine (W g rs memory)
    → Leads P g below (standing g 0 0 0 rs memory below) (E g) (W g rs memory)

-- ---- the instruction at which a frame stands

pub at_drop : {X : Type 0} (xs : List X) (p : ℕ) → slice_get xs p ≡ slice_get (drop p xs) 0
at_drop [] zero = refl
at_drop [] (suc p) = refl
at_drop (x ∷ xs) zero = refl
at_drop (x ∷ xs) (suc p) = at_drop xs p

pub got_here : {X : Type 0} (xs : List X) (p : ℕ) (x : X) (rest : List X) → drop p xs ≡ x ∷ rest → slice_get xs p ≡ Some x
got_here xs p x rest e = at_drop xs p ∙ ap (λ l. slice_get l 0) e

pub step_here : (P : Program) (f from b p : ℕ) (rs : Registers) (memory : Memory) (below : List Frame) (s : Step) (ss : List Step)
    → drop p (steps_of P f b) ≡ s ∷ ss
    → step P (standing f from b p rs memory below) ≡ act_on P (standing f from b p rs memory below) s s.act
step_here P f from b p rs memory below s ss e =
    ap (λ o. step_of P (standing f from b p rs memory below) o) (got_here (steps_of P f b) p s ss e)

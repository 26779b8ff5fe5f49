-- Bounded runs and plain runs.
use Rattle.std.proofs.Common.{◌≡◌, ◌≢◌, ℕ, zero, suc, ◌+◌, Bool, true, false, ◌&&◌, List, ◌∷◌, refl, sym, ◌∙◌, ap, arith}
use Rattle.std.specs.Prelude.{not, if◌then◌else◌, nat_eq}
use Rattle.ir_value.specs.declared.value.StuckReason.TheVariants.{U4}
use Rattle.ir_code.specs.declared.program.Program.{Program}
use Rattle.ir_machine.specs.declared.state.Machine.{Machine}
use Rattle.ir_machine.specs.declared.state.Next.{Next}
use Rattle.ir_machine.specs.declared.state.Next.TheVariants.{Going, Ended}
use Rattle.ir_machine.specs.declared.state.End.{End}
use Rattle.ir_machine.specs.declared.state.End.TheVariants.{Stuck, Unfinished}
use Rattle.ir_machine.specs.Step.{step, run, then_run}
use Rattle.hk_bounded.specs.Bounded.{Shape, shape_of, is_turn_step, Watched, own, callers, kept, Bound, goes, ends, turned, bound_next, then_bound, bounded_run, watched, stays_on, stays_within}

module _ (P : Program) (shapes : List Shape) (n : ℕ) where
  -- where no call follows more than n turns within so many steps, the bounded run is the run
  pub bounded_is_run : (steps : ℕ) (w : Watched) → stays_within P shapes n steps w ≡ true → bounded_run P shapes n steps w ≡ run P steps w.machine
  bounded_is_run zero w e = refl
  bounded_is_run (suc steps) w e = go (λ v f. bounded_is_run steps v f) (step P w.machine) e
    where
      turns : ((v : Watched) → stays_within P shapes n steps v ≡ true → bounded_run P shapes n steps v ≡ run P steps v.machine) → (after : Machine) (t u : Bool)
          → (not (t && u) && stays_within P shapes n steps (watched t w after)) ≡ true
          → then_bound (if t then (if u then ends (Stuck U4 (shape_of shapes w.machine.top.function).line) else goes (record { machine = after; turns = suc (own w.turns) ∷ callers w.turns })) else goes (record { machine = after; turns = kept w.machine after w.turns })) (bounded_run P shapes n steps)
          ≡ run P steps after
      turns rest after true true f = absurd (cc)
      turns rest after true false f = rest (record { machine = after; turns = suc (own w.turns) ∷ callers w.turns }) f
      turns rest after false u f = rest (record { machine = after; turns = kept w.machine after w.turns }) f

      go : ((v : Watched) → stays_within P shapes n steps v ≡ true → bounded_run P shapes n steps v ≡ run P steps v.machine) → (next : Next)
          → stays_on (stays_within P shapes n steps) P shapes n w next ≡ true
          → then_bound (bound_next P shapes n w next) (bounded_run P shapes n steps) ≡ then_run next (run P steps)
      go rest (Ended end) f = refl
      go rest (Going after) f = turns rest after (is_turn_step P shapes w.machine after) (nat_eq (own w.turns) n) f

  -- a bounded run that has ended stays so
  pub bounded_stays : (steps more : ℕ) (w : Watched) (end : End) → end ≢ Unfinished → bounded_run P shapes n steps w ≡ end → bounded_run P shapes n (steps + more) w ≡ end
  bounded_stays zero more w end unlike e = absurd (unlike (sym e))
  bounded_stays (suc steps) more w end unlike e =
      let s : suc steps + more ≡ suc (steps + more) = omega arith in
      ap (λ k. bounded_run P shapes n k w) s ∙ go (λ v f. bounded_stays steps more v end unlike f) (bound_next P shapes n w (step P w.machine)) e
    where
      go : ((v : Watched) → bounded_run P shapes n steps v ≡ end → bounded_run P shapes n (steps + more) v ≡ end) → (b : Bound)
          → then_bound b (bounded_run P shapes n steps) ≡ end → then_bound b (bounded_run P shapes n (steps + more)) ≡ end
      go rest (goes v) f = rest v f
      go rest (ends x) f = f

-- No run of a function of a checked kernel is lost.
use Rattle.std.proofs.Common.{◌≡◌, ℕ, zero, suc, ◌^◌, true, false, Some, List, [], ◌∷◌, map, refl, sym, ◌∙◌, ap, subst}
use Rattle.std.specs.Prelude.{is_some, bytes_eq, slice_get}
use Rattle.std.specs.List.{IsDistinct}
use Rattle.std.proofs.lemmas.Bool.{lt-ltb}
use Rattle.ir_ast.specs.Plain.{Ty, integer}
use Rattle.ir_ast.specs.Program as plain
use Rattle.ir_ast.specs.Program.{Act, InstrView, FunctionView, ModuleView}
use Rattle.ir_ast.specs.Table.{names_of}
use Rattle.ir_type.specs.Whole.{Types, meant}
use Rattle.ir_typing.specs.Fits.{is_phi}
use Rattle.ir_check.specs.Checked.{IsChecked}
use Rattle.ir_value.specs.declared.value.Value.TheVariants.{Number}
use Rattle.ir_machine.specs.declared.state.Held.TheVariants as held
use Rattle.ir_machine.specs.declared.state.Machine.{Machine}
use Rattle.ir_machine.specs.declared.state.End.{End}
use Rattle.ir_machine.specs.declared.state.Next.{Next}
use Rattle.ir_machine.specs.declared.state.Next.TheVariants.{Going, Ended}
use Rattle.ir_machine.specs.Step as machine
use Rattle.ir_machine.specs.Step.{step, act_on, then_run, run, start}
use Rattle.ir_resolve.specs.Acts.{act_of}
use Rattle.ir_resolve.specs.Resolved.{code_of, step_of, program_of}
use Rattle.ir_walk.specs.Walk.{Memory}
use Rattle.ir_kernel.specs.Steps.{AreBytes}
use Rattle.ir_typed.specs.Spelled.{AreSpelled}
use Rattle.ir_typed.specs.Endings.{IsNumberOf, AreNumbersOf, IsEndOf}
use Rattle.ir_typed.proofs.Standing.{step_is}
use Rattle.ir_typed.proofs.Keeping.{IsTyped, NextFits}
use Rattle.ir_typed.proofs.Computing.{simple_fits}
use Rattle.ir_typed.proofs.Storing.{store_fits}
use Rattle.ir_typed.proofs.Branching.{goto_fits, branch_fits, switch_fits}
use Rattle.ir_typed.proofs.Returning.{give_fits}
use Rattle.ir_typed.proofs.Entering.{AreSetTo, begun_frame}
use Rattle.ir_typed.proofs.Calling.{call_comes}

numbers_set : (types : Types) (ps : List (Ty × List ℕ)) (ns : List ℕ) → AreNumbersOf types (map (λ (p : Ty × List ℕ). p.0) ps) ns → AreSetTo types ps (map (λ n. Some (held.Value (Number n))) ns)
numbers_set types [] [] a = tt
numbers_set types (p ∷ ps) (n ∷ ns) a = (one (meant types p.0) n a.0, numbers_set types ps ns a.1)
  where
    one : (t : Ty) (n : ℕ) → IsNumberOf t n → Rattle.ir_kernel.specs.Typed.is_of t (Number n) ≡ true
    one (integer w) n l = lt-ltb n (2 ^ w) l
    one t n l = absurd l
numbers_set types [] (n ∷ ns) a = absurd a
numbers_set types (p ∷ ps) [] a = absurd a

module _ (m : ModuleView) (checked : IsChecked m) (distinct : IsDistinct bytes_eq (names_of m.functions)) (spelled : AreSpelled m) (whole : FunctionView) where
  act_fits : (c : Machine) (typed : IsTyped m whole c) → NextFits m whole (act_on (program_of m) c (step_of m typed.top.function typed.top.instr) (act_of m typed.top.function typed.top.instr.act))
  act_fits c typed = by typed.top.instr.act refl
    where
      clash : true ≡ false → ⊥
      clash e = cc

      by : (a : Act) → typed.top.instr.act ≡ a → NextFits m whole (act_on (program_of m) c (step_of m typed.top.function typed.top.instr) (act_of m typed.top.function typed.top.instr.act))
      by (plain.phi over arms) e = absurd (clash (sym (ap is_phi e) ∙ typed.top.at.plain))
      by (plain.store over v target align) e = store_fits m checked whole c typed over v target align e
      by (plain.call over name arguments) e = call_comes m checked distinct spelled whole c typed over name arguments e
      by (plain.goto b) e = goto_fits m checked whole c typed b e
      by (plain.branch v taken other) e = branch_fits m checked whole c typed v taken other e
      by (plain.switch w on default cases) e = switch_fits m checked whole c typed w on default cases e
      by (plain.give over value) e = give_fits m checked whole c typed over value e
      by plain.unreachable e = subst (λ a. NextFits m whole (act_on (program_of m) c (step_of m typed.top.function typed.top.instr) (act_of m typed.top.function a))) (sym e) tt
      by a e = simple_fits m checked spelled whole c typed (ap Rattle.ir_typed.proofs.Computing.is_simple e)

  -- a step of a configuration that fits leads to one that fits, or ends as the function may
  pub step_fits : (c : Machine) → IsTyped m whole c → NextFits m whole (step (program_of m) c)
  step_fits c typed = subst (λ o. NextFits m whole (machine.step_of (program_of m) c o)) (sym (step_is m checked c.top typed.top)) (act_fits c typed)

  goes_on : (go : Machine → End) → ((c : Machine) → IsTyped m whole c → IsEndOf (meant m.types whole.result) (go c)) → (next : Next) → NextFits m whole next → IsEndOf (meant m.types whole.result) (then_run next go)
  goes_on go each (Going c) fit = each c fit
  goes_on go each (Ended end) fit = fit

  pub run_fits : (n : ℕ) (c : Machine) → IsTyped m whole c → IsEndOf (meant m.types whole.result) (run (program_of m) n c)
  run_fits zero c typed = tt
  run_fits (suc n) c typed = goes_on (run (program_of m) n) (run_fits n) (step (program_of m) c) (step_fits c typed)

  pub runs_fit : (k : ℕ) (name : List ℕ) → slice_get m.functions k ≡ Some (name, whole) → is_some whole.body ≡ true → (arguments : List ℕ) (memory : Memory) (n : ℕ)
      → AreNumbersOf m.types (map (λ (p : Ty × List ℕ). p.0) whole.parameters) arguments → AreBytes memory
      → IsEndOf (meant m.types whole.result) (run (program_of m) n (start (code_of m whole) k arguments memory))
  runs_fit k name there body arguments memory n numbers bytes =
      let begun = begun_frame m checked spelled k name whole there body (map (λ n. Some (held.Value (Number n))) arguments) (numbers_set m.types whole.parameters arguments numbers) in
      run_fits n (start (code_of m whole) k arguments memory) (record { bytes = bytes; top = begun.0; below = sym begun.1 })

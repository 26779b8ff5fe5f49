-- Whole runs of a kernel's functions, as the machine ends them and as a caller sees it.
use Rattle.std.proofs.Common.{◌≡◌, ◌≢◌, ℕ, ◌<◌, ◌^◌, true, false, Option, Some, None, List, refl, sym, ◌∙◌, ap, subst}
use Rattle.ir_ast.specs.Plain.{Ty, nothing, integer, pointer}
use Rattle.ir_ast.specs.Program.{FunctionView, ModuleView}
use Rattle.ir_type.specs.Whole.{meant, is_pointer}
use Rattle.ir_type.proofs.Places.{some_same}
use Rattle.ir_value.specs.declared.value.Value.{Value}
use Rattle.ir_value.specs.declared.value.Value.TheVariants.{Number, Null, Address, Poison}
use Rattle.ir_machine.specs.declared.state.End.{End}
use Rattle.ir_machine.specs.declared.state.End.TheVariants.{Returned, Stuck, Lost, Unfinished}
use Rattle.ir_machine.specs.Step.{run, start}
use Rattle.ir_resolve.specs.Resolved.{code_of, program_of}
use Rattle.ir_kernel.specs.declared.ends.RunEnd.{RunEnd}
use Rattle.ir_kernel.specs.declared.ends.RunEnd.TheVariants as end
use Rattle.ir_kernel.specs.Runs.{IsRun}
use Rattle.ir_kernel.specs.Ends.{IsEndOfRun, seen}
use Rattle.ir_kernel.specs.Steps.{AreBytes}
use Rattle.ir_kernel.proofs.ValueTypes.{number_of_width}
use Rattle.ir_typed.specs.Endings.{IsRunnable, IsFitCall, IsEndOf, IsSeenOf}
use Rattle.ir_typed.proofs.NeverLost.{runs_fit}

-- ---- ends

not_lost : (t : Ty) (e : End) → IsEndOf t e → e ≢ Lost
not_lost t e fit same = subst (IsEndOf t) same fit

number_back : (t : Ty) (w : ℕ) (value : Option Value) (after : List (List ℕ)) → t ≡ integer w → IsEndOf t (Returned value after) → (n : ℕ) × (value ≡ Some (Number n)) × (n < 2 ^ w) × AreBytes after
number_back t w value after same fit = by value (subst (λ t. IsEndOf t (Returned value after)) same fit)
  where
    by : (value : Option Value) → IsEndOf (integer w) (Returned value after) → (n : ℕ) × (value ≡ Some (Number n)) × (n < 2 ^ w) × AreBytes after
    by (Some (Number n)) h = (n, refl, number_of_width w n h.0, h.2)
    by (Some Null) h = let e = h.0 in absurd cc
    by (Some (Address o x)) h = let e = h.0 in absurd cc
    by (Some Poison) h = absurd (h.1 refl)
    by None h = let e = h.0 in absurd cc

nothing_back : (t : Ty) (value : Option Value) (after : List (List ℕ)) → t ≡ nothing → IsEndOf t (Returned value after) → (value ≡ None) × AreBytes after
nothing_back t value after same fit = by value (subst (λ t. IsEndOf t (Returned value after)) same fit)
  where
    by : (value : Option Value) → IsEndOf nothing (Returned value after) → (value ≡ None) × AreBytes after
    by None h = (refl, h.1)
    by (Some v) h = let e = h.0 in absurd cc

seen_number : (t : Ty) (n : ℕ) (after : List (List ℕ)) → is_pointer t ≡ false → IsEndOf t (Returned (Some (Number n)) after) → IsSeenOf t (end.Returned (Some n) after)
seen_number (integer w) n after p h = (number_of_width w n h.0, h.2)
seen_number pointer n after p h = absurd cc
seen_number t n after p h = let e = h.0 in absurd cc

seen_nothing : (t : Ty) (after : List (List ℕ)) → IsEndOf t (Returned None after) → IsSeenOf t (end.Returned None after)
seen_nothing nothing after h = h.1
seen_nothing t after h = let e = h.0 in absurd cc

other_value : {A : Type 0} (t : Ty) (v : Value) → is_pointer t ≡ false → Rattle.ir_kernel.specs.Typed.is_of t v ≡ true → (v ≢ Poison) → ((n : ℕ) → v ≡ Number n → ⊥) → A
other_value (integer w) (Number n) p h q r = absurd (r n refl)
other_value (integer w) Null p h q r = absurd cc
other_value (integer w) (Address o x) p h q r = absurd cc
other_value (integer w) Poison p h q r = absurd (q refl)
other_value pointer v p h q r = absurd cc
other_value t v p h q r = absurd cc

stuck_seen : (t : Ty) (r : _) (line : ℕ) → IsSeenOf t (end.Stuck r line)
stuck_seen (integer w) r line = tt
stuck_seen nothing r line = tt
stuck_seen t r line = tt

ends_seen : (t : Ty) (e : End) → is_pointer t ≡ false → e ≢ Unfinished → IsEndOf t e → IsSeenOf t (seen e)
ends_seen t (Returned None after) p u h = seen_nothing t after h
ends_seen t (Returned (Some (Number n)) after) p u h = seen_number t n after p h
ends_seen t (Returned (Some Null) after) p u h = other_value t Null p h.0 h.1 (λ n e. cc)
ends_seen t (Returned (Some (Address o x)) after) p u h = other_value t (Address o x) p h.0 h.1 (λ n e. cc)
ends_seen t (Returned (Some Poison) after) p u h = absurd (h.1 refl)
ends_seen t (Stuck r line) p u h = stuck_seen t r line
ends_seen t Lost p u h = absurd h
ends_seen t Unfinished p u h = absurd (u refl)

seen_not_lost : (t : Ty) (e : RunEnd) → IsSeenOf t e → e ≢ end.Lost
seen_not_lost t e fit same = absurd (none t (subst (IsSeenOf t) same fit))
  where
    none : (t : Ty) → IsSeenOf t end.Lost → ⊥
    none (integer w) h = h
    none nothing h = h
    none t h = h

-- ---- runs

module _ (m : ModuleView) (function : ℕ) (arguments : List ℕ) (memory : List (List ℕ)) (called : FunctionView) (runs : IsRunnable m) (call : IsFitCall m function arguments memory called) where
  pub run_ends : (end : End) → IsRun m function arguments memory end → IsEndOf (meant m.types called.result) end
  run_ends end r =
      let same : r.called ≡ called = second (sym r.there ∙ call.there) in
      let is : end ≡ run (program_of m) r.steps (start (code_of m called) function arguments memory) = r.is ∙ ap (λ (f : FunctionView). run (program_of m) r.steps (start (code_of m f) function arguments memory)) same in
      subst (IsEndOf (meant m.types called.result)) (sym is)
      (runs_fit m runs.checked runs.distinct runs.spelled called function call.name call.there call.body arguments memory r.steps call.numbers call.bytes)
    where
      second : {x y : List ℕ} {f g : FunctionView} → ◌≡◌ {A = Option (List ℕ × FunctionView)} (Some (x, f)) (Some (y, g)) → f ≡ g
      second {x} {y} {f} {g} e =
          let pick : List ℕ × FunctionView → FunctionView = λ e. e.1 in
          ap pick (some_same {A = List ℕ × FunctionView} (x, f) (y, g) e)

  pub run_not_lost : (end : End) → IsRun m function arguments memory end → end ≢ Lost
  run_not_lost end r = not_lost (meant m.types called.result) end (run_ends end r)

  pub run_gives : (w : ℕ) (value : Option Value) (after : List (List ℕ)) → meant m.types called.result ≡ integer w → IsRun m function arguments memory (Returned value after)
      → (n : ℕ) × (value ≡ Some (Number n)) × (n < 2 ^ w) × AreBytes after
  run_gives w value after same r = number_back (meant m.types called.result) w value after same (run_ends (Returned value after) r)

  pub run_gives_nothing : (value : Option Value) (after : List (List ℕ)) → meant m.types called.result ≡ nothing → IsRun m function arguments memory (Returned value after) → (value ≡ None) × AreBytes after
  run_gives_nothing value after same r = nothing_back (meant m.types called.result) value after same (run_ends (Returned value after) r)

  pub seen_ends : (e : RunEnd) → is_pointer (meant m.types called.result) ≡ false → IsEndOfRun m function arguments memory e → IsSeenOf (meant m.types called.result) e
  seen_ends e p r =
      subst (IsSeenOf (meant m.types called.result)) (sym r.is) (ends_seen (meant m.types called.result) r.whole p r.finished (run_ends r.whole r.run))

  pub seen_run_not_lost : (e : RunEnd) → is_pointer (meant m.types called.result) ≡ false → IsEndOfRun m function arguments memory e → e ≢ end.Lost
  seen_run_not_lost e p r = seen_not_lost (meant m.types called.result) e (seen_ends e p r)

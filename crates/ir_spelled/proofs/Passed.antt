-- The numbers that a function takes are of its parameters' types, so a run from them is not lost.
use Rattle.std.proofs.Common.{◌≡◌, ◌≢◌, ◌<◌, ◌^◌, ◌+◌, ℕ, Bool, true, false, ◌&&◌, if◌then◌else◌, Option, Some, None, is_some, List, [], ◌∷◌, length, map, refl, sym, ap, subst, ◌∙◌, arith}
use Rattle.std.specs.Prelude.{◌==◌}
use Rattle.std.proofs.lemmas.Bool.{ltb-true, eqb-true}
use Rattle.ir_ast.specs.Plain.{Ty, nothing, integer, pointer, array, structure, packed, named, opaque}
use Rattle.ir_ast.specs.Program.{FunctionView, ModuleView}
use Rattle.ir_type.specs.Whole.{Types, meant, is_pointer}
use Rattle.ir_check.specs.Answers.{find_body}
use Rattle.ir_value.specs.Numbers.{is_width, is_number}
use Rattle.ir_kernel.specs.declared.passing.Misfit.{Misfit}
use Rattle.ir_kernel.specs.declared.passing.Misfit.TheVariants.{Argument, Pointer, Count, Unknown}
use Rattle.ir_kernel.specs.declared.ends.RunEnd.{RunEnd}
use Rattle.ir_kernel.specs.declared.ends.RunEnd.TheVariants as end
use Rattle.ir_kernel.specs.Ends.{IsEndOfRun}
use Rattle.ir_kernel.specs.Passing.{takes_number, first_untaken, result_misfit, type_misfit, function_misfit, entry_misfit, misfit, IsPassed}
use Rattle.ir_kernel.specs.Steps.{AreBytes}
use Rattle.ir_kernel.proofs.PassingLaws.{found_at}
use Rattle.ir_typed.specs.Endings.{IsNumberOf, AreNumbersOf, IsRunnable, IsFitCall}
use Rattle.ir_typed.proofs.WholeRuns.{seen_run_not_lost}

second : (a b : Bool) → (a && b) ≡ true → b ≡ true
second true b h = h
second false b h = absurd cc

-- a number that a type takes is one of it
number_is : (t : Ty) (n : ℕ) → takes_number t n ≡ true → IsNumberOf t n
number_is nothing n h = absurd cc
number_is (integer w) n h = ltb-true n (2 ^ w) (second (is_width w) (is_number w n) h)
number_is pointer n h = absurd cc
number_is (array k t) n h = absurd cc
number_is (structure ts) n h = absurd cc
number_is (packed ts) n h = absurd cc
number_is (named x) n h = absurd cc
number_is opaque n h = absurd cc

-- where no parameter is left that does not take its number, each takes it
numbers_are : (types : Types) (k : ℕ) (ps : List (Ty × List ℕ)) (ns : List ℕ) → length ns ≡ length ps → first_untaken types k ps ns ≡ None → AreNumbersOf types (map (λ p. p.0) ps) ns
numbers_are types k [] [] same none = tt
numbers_are types k [] (n ∷ ns) same none = absurd (omega (arith, same))
numbers_are types k (p ∷ ps) [] same none = absurd (omega (arith, same))
numbers_are types k (p ∷ ps) (n ∷ ns) same none = by (takes_number (meant types p.0) n) refl none (λ none. numbers_are types (k + 1) ps ns (omega (arith, same)) none)
  where
    by : (b : Bool) → takes_number (meant types p.0) n ≡ b → (if b then first_untaken types (k + 1) ps ns else Some k) ≡ None
        → (first_untaken types (k + 1) ps ns ≡ None → AreNumbersOf types (map (λ p. p.0) ps) ns) → AreNumbersOf types (map (λ p. p.0) (p ∷ ps)) (n ∷ ns)
    by true is none rest = (number_is (meant types p.0) n is, rest none)
    by false is none rest = absurd cc

record Takes (types : Types) (f : FunctionView) (arguments : List ℕ) : Type 0 where
  numbers : AreNumbersOf types (map (λ p. p.0) f.parameters) arguments
  result : is_pointer (meant types f.result) ≡ false

takes_all : (types : Types) (f : FunctionView) (arguments : List ℕ) → function_misfit types f arguments ≡ None → Takes types f arguments
takes_all types f arguments none = by (length arguments == length f.parameters) refl none
  where
    result_is : (b : Bool) → result_misfit b ≡ None → b ≡ false
    result_is true h = absurd cc
    result_is false h = refl

    typed : length arguments ≡ length f.parameters → (o : Option ℕ) → first_untaken types 0 f.parameters arguments ≡ o → type_misfit o (meant types f.result) ≡ None → Takes types f arguments
    typed same (Some k) is h = absurd cc
    typed same None is h = record { numbers = numbers_are types 0 f.parameters arguments same is; result = result_is (is_pointer (meant types f.result)) h }

    by : (b : Bool) → (length arguments == length f.parameters) ≡ b → (if b then type_misfit (first_untaken types 0 f.parameters arguments) (meant types f.result) else Some Count) ≡ None → Takes types f arguments
    by true is h = typed (eqb-true (length arguments) (length f.parameters) is) (first_untaken types 0 f.parameters arguments) refl h
    by false is h = absurd cc

pub never : (m : ModuleView) (name arguments : List ℕ) (function : ℕ) (memory : List (List ℕ)) (seen : RunEnd) → IsRunnable m → misfit m name arguments ≡ None → IsPassed m name arguments function → AreBytes memory
    → IsEndOfRun m function arguments memory seen → seen ≢ end.Lost
never m name arguments function memory seen runs none passed bytes run =
    let f = found_at m name function passed.found in
    let told : misfit m name arguments ≡ function_misfit m.types f.0 arguments =
    ap (λ o. entry_misfit m.types o arguments) f.1.entry ∙ ap (λ b. if b then function_misfit m.types f.0 arguments else Some Unknown) f.1.body in
    let takes = takes_all m.types f.0 arguments (sym told ∙ none) in
    let call : IsFitCall m function arguments memory f.0 = record { name = name; there = f.1.there; body = f.1.body; numbers = takes.numbers; bytes = bytes } in
    seen_run_not_lost m function arguments memory f.0 runs call seen takes.result run

-- What tests tell, joined.
use Rattle.std.proofs.Common.{◌≡◌, ◌<◌, ◌&&◌, ℕ, zero, suc, Bool, true, false, not, Some, List, [], ◌∷◌, length, map, refl, sym, ap, ◌∙◌, subst, arith}
use Rattle.std.specs.Prelude.{All, slice_get}
use Rattle.std.specs.List.{list_all}
use Rattle.std.proofs.lemmas.List.{length-map}
use Rattle.std.proofs.lemmas.List.Elements.{All-nil, All-cons, All-head, All-tail}
use Rattle.ir_ast.specs.Program.{FunctionView, ModuleView}
use Rattle.ir_machine.specs.Step.{run, start}
use Rattle.ir_resolve.specs.Resolved.{code_of, program_of}
use Rattle.ir_check.specs.Paths.{IsLength}
use Rattle.ir_check.proofs.Lengths.{one_length}
use Rattle.ir_kernel.specs.declared.ends.RunEnd.{RunEnd}
use Rattle.ir_kernel.specs.Ends.{IsEndOfRun, seen}
use Rattle.ir_kernel.specs.Runs.{CanCall}
use Rattle.spec_tree.specs.Plain.{Transition, Spec}
use Rattle.spec_tree.specs.Shapes.{AreNumbers}
use Rattle.spec_names.specs.Kernel.{number, Function}
use Rattle.spec_kernel.specs.View.{function_of, kernel_of}
use Rattle.spec_kernel.specs.Fit.{FitsModule, Handles}
use Rattle.spec_tree.specs.Meaning as meaning
use Rattle.hk_case.specs.declared.Obligation.{Obligation}
use Rattle.hk_case.specs.Violation.{Misses}
use Rattle.hk_exhaust.specs.Answers.{Tells}
use Rattle.hk_exhaust.specs.Handlers.{Falls}

pub told_not : (b : Bool) (P : Type 0) → Tells b P → (b ≡ false) → P → ⊥
told_not true P h e = cc
told_not false P h e = h

pub all_told : {X : Type 0} (p : X → Bool) (xs : List X) (b : Bool) → b ≡ list_all p xs → Tells b (All (λ x. p x ≡ true) xs)
all_told p xs b e = subst (λ c. Tells c (All (λ x. p x ≡ true) xs)) (sym e) (told p xs)
  where
    with : {X : Type 0} (p : X → Bool) (x : X) (xs : List X) (c : Bool) → p x ≡ c → Tells (list_all p xs) (All (λ y. p y ≡ true) xs) → Tells (c && list_all p xs) (All (λ y. p y ≡ true) (x ∷ xs))
    with p x xs false e h = λ all. let first : p x ≡ true = All-head (λ y. p y ≡ true) x xs all in cc
    with p x xs true e h = on (list_all p xs) h
      where
        on : (d : Bool) → Tells d (All (λ y. p y ≡ true) xs) → Tells d (All (λ y. p y ≡ true) (x ∷ xs))
        on true all = All-cons (λ y. p y ≡ true) x xs e all
        on false none = λ all. none (All-tail (λ y. p y ≡ true) x xs all)

    told : {X : Type 0} (p : X → Bool) (xs : List X) → Tells (list_all p xs) (All (λ x. p x ≡ true) xs)
    told p [] = All-nil (λ x. p x ≡ true)
    told p (x ∷ xs) = with p x xs (p x) refl (told p xs)

-- ---- runs

same_ends : (m : ModuleView) (f : ℕ) (args : List ℕ) (memory : List (List ℕ)) (a b : RunEnd) → IsEndOfRun m f args memory a → IsEndOfRun m f args memory b → a ≡ b
same_ends m f args memory a b x y =
    let e : (x.run.name, x.run.called) ≡ (y.run.name, y.run.called) = cc in
    let long : IsLength m y.run.name x.run.steps = subst (λ (p : List ℕ × FunctionView). IsLength m p.0 x.run.steps) e x.run.length in
    let steps : x.run.steps ≡ y.run.steps = one_length m y.run.name x.run.steps y.run.steps long y.run.length in
    x.is ∙ ap seen (x.run.is ∙ ap (λ (p : List ℕ × FunctionView). run (program_of m) x.run.steps (start (code_of m p.1) f args memory)) e
    ∙ ap (λ n. run (program_of m) n (start (code_of m y.run.called) f args memory)) steps ∙ sym y.run.is) ∙ sym y.is

pub falls_told : (m : ModuleView) (s : Spec) (t : Transition) (o : Obligation) (memory : List (List ℕ)) (args : List ℕ) (end : RunEnd) (b : Bool) → meaning.Invariant s memory → IsEndOfRun m t.function args memory end
    → Tells b (Misses s t memory args o end) → Tells b (Falls m s t o memory args)
falls_told m s t o memory args end true i e h = (i, end, e, h)
falls_told m s t o memory args end false i e h = λ f. h (subst (Misses s t memory args o) (same_ends m t.function args memory f.1 end f.2 e) f.3)

-- ---- handlers

found_in : {X Y : Type 0} (f : X → Y) (xs : List X) (k : ℕ) (y : Y) → slice_get (map f xs) k ≡ Some y → (x : X) × (slice_get xs k ≡ Some x) × (f x ≡ y)
found_in f [] zero y g = cc
found_in f [] (suc k) y g = cc
found_in f (x ∷ xs) zero y g = (x, refl, cc)
found_in f (x ∷ xs) (suc k) y g = found_in f xs k y g

pub all_there : {X : Type 0} (P : X → Type 0) (xs : List X) (k : ℕ) (x : X) → slice_get xs k ≡ Some x → All P xs → P x
all_there P [] zero x g h = cc
all_there P [] (suc k) x g h = cc
all_there P (y ∷ xs) zero x g h = let e : y ≡ x = cc in subst P e (All-head P y xs h)
all_there P (y ∷ xs) (suc k) x g h = all_there P xs k x g (All-tail P y xs h)

as_many : (ws ns : List ℕ) → AreNumbers ws ns → length ns ≡ length ws
as_many [] ns h = ap length h
as_many (w ∷ ws) [] h = absurd h
as_many (w ∷ ws) (n ∷ ns) h = omega (arith, as_many ws ns h.1)

pub can_call : (m : ModuleView) (s : Spec) (place : ℕ) (t : Transition) (args : List ℕ) → FitsModule m s → slice_get s.transitions place ≡ Some t → AreNumbers t.widths args → CanCall m t.function args
can_call m s place t args fits there numbers =
    let h : Handles (kernel_of m) t = all_there (Handles (kernel_of m)) s.transitions place t there fits.handlers in
    let found = found_in (function_of m.types) m.functions t.function h.0 h.1 in
    let e = found.0 in
    let many : length e.1.parameters ≡ length t.widths =
    sym (length-map e.1.parameters _) ∙ ap length (ap (λ (f : Function). f.parameters) found.2 ∙ h.4) ∙ length-map t.widths number in
    (e.0, e.1, record { there = found.1; body = ap (λ (f : Function). f.defined) found.2 ∙ h.3; as_many = as_many t.widths args numbers ∙ sym many })

-- ---- one of a list

some_there : {X : Type 0} (xs : List X) (i : ℕ) → i < length xs → (x : X) × (slice_get xs i ≡ Some x)
some_there [] i low = absurd (omega (arith, low))
some_there (x ∷ xs) zero low = (x, refl)
some_there (x ∷ xs) (suc i) low = some_there xs i (omega (arith, low))

pub is_false : {X : Type 0} (p : X → Bool) (xs : List X) (i : ℕ) (b : Bool) → i < length xs → ((x : X) → slice_get xs i ≡ Some x → b ≡ p x) → Tells (not b) ((x : X) × (slice_get xs i ≡ Some x) × (p x ≡ false))
is_false p xs i true low h = λ f. let e : true ≡ false = h f.0 f.1 ∙ f.2 in cc
is_false p xs i false low h = let x = some_there xs i low in (x.0, x.1, sym (h x.0 x.1))

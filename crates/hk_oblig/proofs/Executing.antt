-- A handler's run: what it is executed with, and what is told of its end.
use Rattle.std.proofs.Common.{◌≡◌, ◌<◌, ℕ, zero, suc, Option, Some, List, [], ◌∷◌, map, length, refl, sym, ap, ◌∙◌, subst}
use Rattle.std.specs.Prelude.{All, slice_get}
use Rattle.std.proofs.lemmas.List.Elements.{All-nil, All-cons, All-head, All-tail}
use Rattle.hk_term.specs.Meaning.{Reading}
use Rattle.hk_term.specs.declared.node.Node.{Node}
use Rattle.ir_ast.specs.Plain.{Ty, nothing, integer}
use Rattle.ir_ast.specs.Program.{ModuleView}
use Rattle.ir_type.specs.Whole.{Types, meant}
use Rattle.ir_layout.specs.declared.object.Object.{Object}
use Rattle.ir_kernel.specs.declared.ends.RunEnd.{RunEnd}
use Rattle.ir_kernel.specs.declared.ends.RunEnd.TheVariants.{Returned, Stuck, Lost}
use Rattle.ir_kernel.specs.Ends.{IsEndOfRun}
use Rattle.hk_symmem.specs.Origins.{Origin, start_memory}
use Rattle.hk_symmem.specs.Guarded.{MemoryView, IsOver, memory_at}
use Rattle.hk_symmem.proofs.Laws.{over_grows, memory_grows}
use Rattle.hk_symmem.specs.Guarded as memories
use Rattle.hk_symvalue.specs.Growth.{Extends}
use Rattle.hk_symexec.specs.Runs.{arguments_at}
use Rattle.hk_symresult.specs.Results.{Gives, Takes, widths_of, HoldsObjects, HasEnd}
use Rattle.hk_symresult.specs.Results as results
use Rattle.spec_tree.specs.Plain.{Transition, Spec}
use Rattle.spec_tree.specs.Shapes.{IsMemory}
use Rattle.spec_tree.specs.Meaning.{Memory}
use Rattle.spec_names.specs.Kernel.{number, Function}
use Rattle.spec_kernel.specs.View.{value_type, result_type, function_of, kernel_of}
use Rattle.spec_kernel.specs.Fit.{IsResult, Handles}
use Rattle.hk_symexpr.specs.Sources.{Agrees}
use Rattle.hk_symspec.specs.Standing.{IsKernelOver, formula_base}
use Rattle.hk_symspec.specs.Steps.{AreArgumentTerms}
use Rattle.hk_oblig.specs.Under.{AreNumbersAt, IsMemoryAt, TellOut, TellOutEnd}

-- ---- the function

found_in : {X Y : Type 0} (f : X → Y) (xs : List X) (k : ℕ) (y : Y) → slice_get (map f xs) k ≡ Some y → (x : X) × (slice_get xs k ≡ Some x) × (f x ≡ y)
found_in f [] zero y g = cc
found_in f [] (suc k) y g = cc
found_in f (x ∷ xs) zero y g = (x, refl, cc)
found_in f (x ∷ xs) (suc k) y g = found_in f xs k y g

is_integer : (t : Ty) (w : ℕ) → value_type t ≡ number w → t ≡ integer w
is_integer (integer v) w e = cc
is_integer t w e = cc

are_integers : (types : Types) (ps : List (Ty × List ℕ)) (ws : List ℕ) → map (λ (p : Ty × List ℕ). value_type (meant types p.0)) ps ≡ map number ws
    → map (λ (p : Ty × List ℕ). meant types p.0) ps ≡ map integer ws
are_integers types [] [] e = refl
are_integers types [] (w ∷ ws) e = cc
are_integers types (p ∷ ps) [] e = cc
are_integers types (p ∷ ps) (w ∷ ws) e =
    let first : value_type (meant types p.0) ≡ number w = cc in
    let rest : map (λ (q : Ty × List ℕ). value_type (meant types q.0)) ps ≡ map number ws = cc in
    λ i. is_integer (meant types p.0) w first i ∷ are_integers types ps ws rest i

gives_so : (t : Ty) (w : ℕ) → IsResult (result_type t) w → Gives t w
gives_so nothing w h = h
gives_so (integer v) w h = h
gives_so t w h = absurd h

pub takes_so : (m : ModuleView) (t : Transition) (ws : List ℕ) → Handles (kernel_of m) t → ws ≡ t.widths → Takes m t.function ws t.result_width
takes_so m t ws h same =
    let found = found_in (function_of m.types) m.functions t.function h.0 h.1 in
    let e = found.0 in
    let is = found.2 in
    let ps : map (λ (p : Ty × List ℕ). value_type (meant m.types p.0)) e.1.parameters ≡ map number t.widths = ap (λ (f : Function). f.parameters) is ∙ h.4 in
    record {
      name = e.0;
      called = e.1;
      there = found.1;
      body = ap (λ (f : Function). f.defined) is ∙ h.3;
      parameters = are_integers m.types e.1.parameters t.widths ps ∙ ap (map integer) (sym same);
      gives = gives_so (meant m.types e.1.result) t.result_width (subst (λ r. IsResult r t.result_width) (sym (ap (λ (f : Function). f.result) is)) h.5);
    }

-- ---- its arguments

pub widths_are : (nodes : List Node) (ws ts : List ℕ) → AreArgumentTerms nodes ws ts → widths_of nodes ts ≡ ws
widths_are nodes [] ts h = ap (widths_of nodes) h
widths_are nodes (w ∷ ws) [] h = absurd h
widths_are nodes (w ∷ ws) (t ∷ ts) h = λ i. h.1 i ∷ widths_are nodes ws ts h.2 i

pub all_there : (nodes : List Node) (ws ts : List ℕ) → AreArgumentTerms nodes ws ts → All (λ a. a < length nodes) ts
all_there nodes [] ts h = subst (All (λ a. a < length nodes)) (sym h) (All-nil (λ a. a < length nodes))
all_there nodes (w ∷ ws) [] h = absurd h
all_there nodes (w ∷ ws) (t ∷ ts) h = All-cons (λ a. a < length nodes) t ts h.0 (all_there nodes ws ts h.2)

-- ---- memories

is_memory : (ns : List ℕ) (memory : List (List ℕ)) → map (λ (o : List ℕ). length o) memory ≡ ns → All (λ o. All (λ b. b < 256) o) memory → IsMemory ns memory
is_memory [] [] e b = refl
is_memory [] (o ∷ memory) e b = cc
is_memory (n ∷ ns) [] e b = cc
is_memory (n ∷ ns) (o ∷ memory) e b =
    let first : length o ≡ n = cc in
    let rest : map (λ (p : List ℕ). length p) memory ≡ ns = cc in
    ((first, All-head (λ p. All (λ c. c < 256) p) o memory b), is_memory ns memory rest (All-tail (λ p. All (λ c. c < 256) p) o memory b))

holds_memory : (s : Spec) (objects : List Object) (memory : List (List ℕ)) → s.objects ≡ map (λ o. o.size) objects → HoldsObjects objects memory → IsMemory s.objects memory
holds_memory s objects memory same h = is_memory s.objects memory (h.sizes ∙ sym same) h.bytes

pub start_over : (s : Spec) (objects : List Object) (old new : List Node) (m : MemoryView) → s.objects ≡ map (λ o. o.size) objects → Extends old new → IsOver old m
    → ((v : Reading) → HoldsObjects objects (memory_at old m v)) → IsKernelOver s new m
start_over s objects old new m same grown over h =
    let k : memories.Keeps old new = record { longer = grown.longer; widths = grown.widths; values = grown.values } in
    record {
      over = over_grows old new m k over;
      whole = λ v. subst (IsMemory s.objects) (sym (memory_grows old new m k over v)) (holds_memory s objects (memory_at old m v) same (h v));
    }

pub behind_over : (s : Spec) (objects : List Object) (nodes : List Node) (m : MemoryView) → s.objects ≡ map (λ o. o.size) objects → IsOver nodes m
    → ((v : Reading) → HoldsObjects objects (memory_at nodes m v)) → IsKernelOver s nodes m
behind_over s objects nodes m same over h = record { over = over; whole = λ v. holds_memory s objects (memory_at nodes m v) same (h v) }

-- the initial memory depends on arrays alone
pub start_is : (nodes : List Node) (m : MemoryView) (origins : List Origin) (v : Reading) → ((u : Reading) → memory_at nodes m u ≡ start_memory origins u.entry) → IsMemoryAt nodes m v (start_memory origins v.entry)
start_is nodes m origins v h = record { same = h v; steady = λ u a. h u ∙ ap (start_memory origins) a.entry ∙ sym (h v) }

-- ---- its end

-- Where the run from these numbers and this memory returns, it does so under all readings that differ in variables of formulas alone,
-- and all these have the memory behind it.
pub out_told : (m : ModuleView) (old new : List Node) (function : ℕ) (args : List ℕ) (start : MemoryView) (undefined : ℕ) (result : Option ℕ) (behind : MemoryView)
    → ((v : Reading) → HasEnd m function (arguments_at old v args) (memory_at old start v))
    → ((v : Reading) (end : RunEnd) → IsEndOfRun m function (arguments_at old v args) (memory_at old start v) end → results.TellsEnd new v undefined result behind end)
    → (v : Reading) (is : Memory) (ns : List ℕ) → IsMemoryAt old start v is → AreNumbersAt old args v ns → TellOut m new v function is ns undefined result behind
out_told m old new function args start undefined result behind there ends v is ns memory numbers = record { ends = some; end = told }
  where
    some : HasEnd m function ns is
    some = subst (λ l. HasEnd m function l is) numbers.same (subst (HasEnd m function (arguments_at old v args)) memory.same (there v))

    -- the same run under another reading
    moved : (u : Reading) → Agrees formula_base v u → (end : RunEnd) → IsEndOfRun m function ns is end → IsEndOfRun m function (arguments_at old u args) (memory_at old start u) end
    moved u a end e =
        let at_numbers : arguments_at old u args ≡ ns = numbers.steady u a ∙ numbers.same in
        let at_memory : memory_at old start u ≡ is = memory.steady u a ∙ memory.same in
        subst (λ l. IsEndOfRun m function l (memory_at old start u) end) (sym at_numbers) (subst (λ l. IsEndOfRun m function ns l end) (sym at_memory) e)

    here : (end : RunEnd) → IsEndOfRun m function ns is end → IsEndOfRun m function (arguments_at old v args) (memory_at old start v) end
    here end e = moved v (record { entry = refl; var = λ id low. refl }) end e

    by : (end : RunEnd) → IsEndOfRun m function ns is end → results.TellsEnd new v undefined result behind end
        → ((u : Reading) → Agrees formula_base v u → results.TellsEnd new u undefined result behind end) → TellOutEnd new v undefined result behind end
    by (Returned returned after) e h all =
        (h.0, record { same = h.1; steady = λ u a. (all u a).1 ∙ sym h.1 }, h.2)
    by (Stuck reason line) e h all = h
    by Lost e h all = h

    told : (end : RunEnd) → IsEndOfRun m function ns is end → TellOutEnd new v undefined result behind end
    told end e = by end e (ends v end (here end e)) (λ u a. ends u end (moved u a end e))

-- Calls of a function that takes and gives integers.
use Rattle.std.proofs.Common.{◌≡◌, ℕ, ◌<◌, ◌^◌, List, [], ◌∷◌, length, reverse, map, refl, sym, ap, subst, arith}
use Rattle.std.specs.List.{All}
use Rattle.std.proofs.lemmas.List.{length-map, length-reverse}
use Rattle.std.proofs.lemmas.List.Elements.{All-head, All-tail}
use Rattle.hk_term.specs.Shape.{width, AllFitIn}
use Rattle.hk_term.specs.Meaning.{Reading, value}
use Rattle.hk_term.specs.declared.node.Node.{Node}
use Rattle.hk_term.proofs.TermLists.{below_in}
use Rattle.ir_ast.specs.Plain.{Ty, integer}
use Rattle.ir_ast.specs.Program.{ModuleView}
use Rattle.ir_type.specs.Whole.{Types, meant}
use Rattle.ir_machine.specs.declared.state.End.{End}
use Rattle.ir_machine.specs.Step.{run, start}
use Rattle.ir_resolve.specs.Resolved.{code_of, program_of}
use Rattle.ir_check.specs.Paths.{IsLength}
use Rattle.ir_kernel.specs.Runs.{CanCall, IsRun}
use Rattle.ir_kernel.specs.Ends.{seen}
use Rattle.ir_kernel.specs.Orders.{AreOrdered}
use Rattle.ir_kernel.proofs.Links.{run_ends}
use Rattle.ir_typed.specs.Endings.{IsRunnable, IsNumberOf, AreNumbersOf, IsFitCall}
use Rattle.ir_typed.proofs.ByteMemories.{bytes_from}
use Rattle.hk_symexec.specs.Runs.{arguments_at}
use Rattle.hk_symresult.specs.Results.{Takes, widths_of, HasEnd}

-- ---- arguments

as_many : (types : Types) (ps : List (Ty × List ℕ)) (nodes : List Node) (terms : List ℕ) → map (λ p. meant types p.0) ps ≡ map integer (widths_of nodes terms) → length terms ≡ length ps
as_many types ps nodes terms e =
    let a = length-map ps (λ (p : Ty × List ℕ). meant types p.0) in
    let b = length-map (widths_of nodes terms) integer in
    let c = length-map terms (λ k. width nodes k) in
    let d = ap length e in
    omega (arith, a, b, c, d)

pub can_call : (m : ModuleView) (function : ℕ) (nodes : List Node) (terms : List ℕ) (result : ℕ) → Takes m function (widths_of nodes terms) result → CanCall m function terms
can_call m function nodes terms result t =
    (t.name, t.called, record { there = t.there; body = t.body; as_many = as_many m.types t.called.parameters nodes terms t.parameters })

below : (nodes : List Node) → AllFitIn (reverse nodes) → (k : ℕ) → k < length nodes → (v : Reading) → value nodes k v < 2 ^ width nodes k
below nodes fit k h v = below_in (reverse nodes) fit k (omega (arith, h, length-reverse nodes)) v

numbers : (types : Types) (ps : List (Ty × List ℕ)) (nodes : List Node) (terms : List ℕ) (v : Reading) → AllFitIn (reverse nodes) → All (λ a. a < length nodes) terms
    → map (λ p. meant types p.0) ps ≡ map integer (widths_of nodes terms) → AreNumbersOf types (map (λ p. p.0) ps) (arguments_at nodes v terms)
numbers types [] nodes [] v fit all e = tt
numbers types [] nodes (a ∷ others) v fit all e = absurd cc
numbers types (p ∷ ps) nodes [] v fit all e = absurd cc
numbers types (p ∷ ps) nodes (a ∷ others) v fit all e =
    let whole : meant types p.0 ∷ map (λ q. meant types q.0) ps ≡ integer (width nodes a) ∷ map integer (widths_of nodes others) = e in
    let first : meant types p.0 ≡ integer (width nodes a) = cc in
    let rest : map (λ q. meant types q.0) ps ≡ map integer (widths_of nodes others) = cc in (
      subst (λ t. IsNumberOf t (value nodes a v)) (sym first) (below nodes fit a (All-head (λ k. k < length nodes) a others all) v),
      numbers types ps nodes others v fit (All-tail (λ k. k < length nodes) a others all) rest,
    )

pub fit_call : (m : ModuleView) (function : ℕ) (nodes : List Node) (terms : List ℕ) (result : ℕ) (v : Reading) (memory : List (List ℕ)) → AllFitIn (reverse nodes) → All (λ a. a < length nodes) terms
    → (t : Takes m function (widths_of nodes terms) result) → All (λ o. All (λ b. b < 256) o) memory → IsFitCall m function (arguments_at nodes v terms) memory t.called
fit_call m function nodes terms result v memory fit all t bytes = record {
  name = t.name;
  there = t.there;
  body = t.body;
  numbers = numbers m.types t.called.parameters nodes terms v fit all t.parameters;
  bytes = bytes_from memory bytes;
}

-- ---- ends

pub has_end : (m : ModuleView) (function : ℕ) (widths : List ℕ) (result : ℕ) (arguments : List ℕ) (memory : List (List ℕ)) → IsRunnable m → AreOrdered m → Takes m function widths result → HasEnd m function arguments memory
has_end m function widths result arguments memory runs ordered t =
    let lengths = runs.checked.lengths in
    let steps = lengths.0 t.name in
    let long : IsLength m t.name steps = record { length_of = lengths.0; sums = λ g leads. lengths.1 g; is = refl } in
    let end : End = run (program_of m) steps (start (code_of m t.called) function arguments memory) in
    let it : IsRun m function arguments memory end = record { name = t.name; called = t.called; there = t.there; steps = steps; length = long; is = refl } in
    (seen end, record { whole = end; run = it; finished = run_ends m runs.checked runs.distinct ordered function (t.name, t.called) steps arguments memory t.there t.body long; is = refl })

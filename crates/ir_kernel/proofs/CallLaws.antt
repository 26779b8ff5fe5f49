-- What a call of the machine says of a run of a kernel.
use Rattle.std.proofs.Common.{◌≡◌, ◌≢◌, ℕ, Some, List, sym, ◌∙◌, ap, subst}
use Rattle.std.specs.Prelude.{Result, Ok, Err, IfOk, slice_get, slice_index_or, bytes_eq}
use Rattle.std.specs.List.{IsDistinct}
use Rattle.std.proofs.lemmas.Option.{get_or_from_slice_get}
use Rattle.ir_ast.specs.Program.{FunctionView, ModuleView}
use Rattle.ir_ast.specs.ProgramView.{view_module}
use Rattle.ir_ast.specs.Table.{names_of}
use Rattle.ir_ast.specs.declared.module.Module.{Module}
use Rattle.ir_check.specs.Paths.{IsLength}
use Rattle.ir_check.specs.Checked.{IsChecked}
use Rattle.ir_code.specs.declared.program.Code.{Code}
use Rattle.ir_code.specs.declared.program.Program.{Program}
use Rattle.ir_machine.specs.declared.state.Machine.{Machine}
use Rattle.ir_machine.specs.declared.state.End.{End}
use Rattle.ir_machine.specs.declared.state.End.TheVariants.{Unfinished}
use Rattle.ir_machine.specs.Step.{run, start}
use Rattle.ir_resolve.specs.Resolved.{code_of, program_of}
use Rattle.ir_walk.specs.Walk.{Memory}
use Rattle.ir_kernel.specs.Orders.{AreOrdered}
use Rattle.ir_kernel.specs.Runs.{IsCall, CanCall, IsRun}
use Rattle.ir_kernel.proofs.CodePlaces.{code_at}
use Rattle.ir_kernel.proofs.Links.{run_ends}

on_ok : {X F : Type 0} (P Q : X → Type 0) (r : Result X F) → ((x : X) → P x → Q x) → IfOk r P → IfOk r Q
on_ok P Q (Ok x) to h = to x h
on_ok P Q (Err e) to h = tt

-- what was called of the machine for a run
pub record IsMade (m : ModuleView) (f : ℕ) (arguments : List ℕ) (memory : Memory) (P : Program) (n : ℕ) (begun : Machine) : Type 0 where
  pub program : P ≡ program_of m
  pub code : Code
  pub read : slice_index_or (program_of m).functions f code ≡ code
  pub length : (e : List ℕ × FunctionView) → slice_get m.functions f ≡ Some e → IsLength m e.0 n
  pub start : begun ≡ start code f arguments memory

module _ (m : ModuleView) (f : ℕ) (arguments : List ℕ) (memory : Memory) (P : Program) (n : ℕ) (begun : Machine) (made : IsMade m f arguments memory P n begun) where
  ran : (name : List ℕ) (called : FunctionView) → IsCall m f arguments name called → (end : End) → end ≡ run P n begun → end ≡ run (program_of m) n (start (code_of m called) f arguments memory)
  ran name called call end is =
      let entry : List ℕ × FunctionView = (name, called) in
      let code : made.code ≡ code_of m called = sym made.read ∙ get_or_from_slice_get (program_of m).functions f (code_of m called) made.code (code_at m f (Some entry) call.there) in
      is ∙ ap (λ (Q : Program). run Q n begun) made.program ∙ ap (run (program_of m) n) (made.start ∙ ap (λ (c : Code). start c f arguments memory) code)

  pub is_run : {F : Type 0} (r : Result End F) → CanCall m f arguments → IfOk r (λ end. end ≡ run P n begun) → IfOk r (λ end. IsRun m f arguments memory end)
  is_run r (name, called, call) h =
      on_ok (λ end. end ≡ run P n begun) (λ end. IsRun m f arguments memory end) r
      (λ end is. record {
        name = name;
        called = called;
        there = call.there;
        steps = n;
        length = made.length (name, called) call.there;
        is = ran name called call end is;
      })
      h

  pub is_finished : {F : Type 0} (r : Result End F) → IsChecked m → IsDistinct bytes_eq (names_of m.functions) → AreOrdered m → CanCall m f arguments → IfOk r (λ end. end ≡ run P n begun)
      → IfOk r (λ end. end ≢ Unfinished)
  is_finished r checked distinct ordered (name, called, call) h =
      on_ok (λ end. end ≡ run P n begun) (λ end. end ≢ Unfinished) r
      (λ end is e. run_ends m checked distinct ordered f (name, called) n arguments memory call.there call.body (made.length (name, called) call.there) (sym (ran name called call end is) ∙ e)) h

-- of a kernel that is seen as its module
pub made_of : (k c : Module) (f : ℕ) (arguments : List ℕ) (memory : Memory) (P Q : Program) (fs : List Code) (code : Code) (n : ℕ) (begun : Machine) → c ≡ k → P ≡ program_of (view_module k)
    → Q ≡ program_of (view_module k) → fs ≡ P.functions → slice_index_or fs f code ≡ code
    → ((e : List ℕ × FunctionView) → slice_get (view_module c).functions f ≡ Some e → IsLength (view_module c) e.0 n) → begun ≡ start code f arguments memory
    → IsMade (view_module k) f arguments memory Q n begun
made_of k c f arguments memory P Q fs code n begun same p q reads read length is = record {
  program = q;
  code = code;
  read = subst (λ (fs : List Code). slice_index_or fs f code ≡ code) (reads ∙ ap (λ (P : Program). P.functions) p) read;
  length = subst (λ (m : Module). (e : List ℕ × FunctionView) → slice_get (view_module m).functions f ≡ Some e → IsLength (view_module m) e.0 n) same length;
  start = is;
}

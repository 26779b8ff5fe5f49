-- What the state behind a function tells of its run.
use Rattle.std.proofs.Common.{◌≡◌, ◌+◌, ◌++◌, ◌-◌, ℕ, zero, suc, Bool, true, false, if◌then◌else◌, ◌==◌, Option, Some, None, List, [], ◌∷◌, map, length, drop, slice_get, refl, sym, ap, ◌∙◌, subst}
use Rattle.std.specs.Prelude.{is_some, bytes_eq}
use Rattle.std.specs.List.{IsDistinct}
use Rattle.std.proofs.lemmas.Option.{same_Some}
use Rattle.hk_term.specs.Meaning.{Reading}
use Rattle.hk_term.specs.declared.node.Node.{Node}
use Rattle.ir_ast.specs.Program.{FunctionView, GlobalView, ModuleView}
use Rattle.ir_ast.specs.ProgramView.{view_module}
use Rattle.ir_ast.specs.declared.module.Module.{Module}
use Rattle.ir_ast.specs.Table.{names_of}
use Rattle.ir_value.specs.declared.value.Value.{Value}
use Rattle.ir_layout.specs.Layouts.{LayoutView, IsLayoutOf}
use Rattle.ir_code.specs.declared.program.Object.{Object}
use Rattle.ir_code.specs.declared.program.Code.{Code}
use Rattle.ir_code.specs.declared.program.Program.{Program}
use Rattle.ir_machine.specs.declared.state.End.{End}
use Rattle.ir_machine.specs.declared.state.End.TheVariants.{Returned, Stuck, Lost, Unfinished}
use Rattle.ir_machine.specs.Values.{Registers}
use Rattle.ir_machine.specs.Step.{blocks_in, start, unset, staged, steps_of, first_registers}
use Rattle.ir_resolve.specs.Resolved.{code_of, object_of, program_of}
use Rattle.ir_check.specs.Checked.{IsChecked}
use Rattle.ir_check.proofs.Lengths.{one_length}
use Rattle.ir_walk.specs.LoopFree.{body_of}
use Rattle.ir_walk.specs.Walk.{Memory, Flow, Goes, Back, Stops, Callee, on_entry, walk_steps, visit, visit_all, walk, end_of, end_of_walk}
use Rattle.ir_walk.proofs.Through.{Holds, HoldsOf, steps_hold}
use Rattle.ir_kernel.specs.Orders.{AreOrders}
use Rattle.ir_kernel.specs.Runs.{CanCall, IsRun}
use Rattle.ir_kernel.proofs.CodePlaces.{code_at}
use Rattle.ir_kernel.proofs.Links.{run_walks}
use Rattle.hk_symvalue.specs.Meaning.{is_true}
use Rattle.hk_symvalue.specs.Growth.{Extends}
use Rattle.hk_symvalue.proofs.Frames.{followed}
use Rattle.hk_symmem.specs.Origins.{AreOriginsOf}
use Rattle.hk_symmem.specs.Guarded.{MemoryView, IsOver, memory_at}
use Rattle.hk_symaccess.specs.Accesses.{FitsMemory}
use Rattle.hk_symstep.specs.Files.{File, IsFile, registers_of}
use Rattle.hk_symexec.specs.declared.exec.Exec.{Exec}
use Rattle.hk_symexec.specs.Seen.{seen, called}
use Rattle.hk_symexec.specs.Tracks.{On, Rests, Shows}
use Rattle.hk_symexec.specs.Runs.{Tells, IsDepth, arguments_at, held_numbers}
use Rattle.hk_symexec.proofs.Visiting.{rests_shows, rests_back, rests_going}
use Rattle.hk_symexec.proofs.Kept.{registers_kept, memory_kept}

-- ---- a walk does not stop as a run that came back

abbrev IsProper : Flow → Type 0
IsProper (Stops (Returned x memory)) = ⊥
IsProper flow = Unit {0}

holds : Holds IsProper
holds = record { lost = tt; stuck = λ r line. tt; back = λ v memory. tt }

of_callee : (flow : Flow) → IsProper flow → HoldsOf IsProper flow
of_callee (Goes to position rs memory) h = tt
of_callee (Back v memory) h = tt
of_callee (Stops (Returned x memory)) h = absurd h
of_callee (Stops (Stuck r line)) h = tt
of_callee (Stops Lost) h = tt
of_callee (Stops Unfinished) h = tt

entry_proper : (to : ℕ) (rs : Registers) (memory : Memory) (o : Option (List (ℕ × Value))) → IsProper (on_entry to rs memory o)
entry_proper to rs memory None = tt
entry_proper to rs memory (Some ps) = tt

module _ (W : Callee) (P : Program) (f : ℕ) (calls : (g : ℕ) (rs : Registers) (memory : Memory) → IsProper (W g rs memory)) where
  placed : (b : ℕ) (t : Bool) (to position : ℕ) (rs : Registers) (memory : Memory)
      → IsProper (if t then walk_steps W P f b (drop position (steps_of P f b)) rs memory else Goes to position rs memory)
  placed b true to position rs memory =
      steps_hold IsProper holds W P f b (drop position (steps_of P f b))
      (λ s to i j rs' memory'. entry_proper to rs' memory' (staged memory' rs' b (steps_of P f to) []))
      (λ s g i j rs' memory'. of_callee (W g rs' memory') (calls g rs' memory'))
      rs memory
  placed b false to position rs memory = tt

  visited : (b : ℕ) (flow : Flow) → IsProper flow → IsProper (visit W P f b flow)
  visited b (Goes to position rs memory) h = placed b (to == b) to position rs memory
  visited b (Back v memory) h = tt
  visited b (Stops end) h = h

  all_visited : (order : List ℕ) (flow : Flow) → IsProper flow → IsProper (visit_all W P f order flow)
  all_visited [] flow h = h
  all_visited (b ∷ order) flow h = all_visited order (visit W P f b flow) (visited b flow h)

proper : (P : Program) (order : ℕ → List ℕ) (n f : ℕ) (rs : Registers) (memory : Memory) → IsProper (walk P order n f rs memory)
proper P order zero f rs memory = tt
proper P order (suc n) f rs memory = all_visited (walk P order n) P f (proper P order n) (order f) (Goes 0 0 rs memory) tt

-- ---- what the state tells

module _ (P : Program) (f : ℕ) (nodes : List Node) (v : Reading) (x : Exec) (m : MemoryView) where
  by_flow : (flow : Flow) → IsProper flow → Rests P f (seen nodes v x) (memory_at nodes m v) (On flow) → Tells nodes v x.stuck x.value m (end_of flow)
  by_flow (Goes to position rs memory) h r = tt
  by_flow (Back y memory) h r =
      let d : Shows (length (body_of P f)) (seen nodes v x) _ = rests_shows P f (seen nodes v x) (memory_at nodes m v) (On (Back y memory)) r tt in
      let b = rests_back P f (seen nodes v x) (memory_at nodes m v) y memory r in
      (d.stuck, b.0, b.1)
  by_flow (Stops (Stuck reason line)) h r = (rests_shows P f (seen nodes v x) (memory_at nodes m v) (On (Stops (Stuck reason line))) r tt).stuck
  by_flow (Stops Lost) h r = tt
  by_flow (Stops Unfinished) h r = tt
  by_flow (Stops (Returned y memory)) h r = absurd h

  pub tells : (order : ℕ → List ℕ) (n : ℕ) (rs : Registers) (memory : Memory) → Rests P f (seen nodes v x) (memory_at nodes m v) (On (walk P order n f rs memory))
      → (end : End) → end ≡ end_of (walk P order n f rs memory) → Tells nodes v x.stuck x.value m end
  tells order n rs memory r end is = subst (Tells nodes v x.stuck x.value m) (sym is) (by_flow (walk P order n f rs memory) (proper P order n f rs memory) r)

-- ---- the run of a kernel

-- the run comes to the end of the walk
pub run_is : (m : ModuleView) → IsChecked m → IsDistinct bytes_eq (names_of m.functions) → (order : ℕ → List ℕ) → AreOrders m order → (f depth : ℕ) (any arguments : List ℕ) (memory : Memory) (end : End)
    → CanCall m f any → IsDepth m f depth → (c : Code) → slice_get (program_of m).functions f ≡ Some c → IsRun m f arguments memory end
    → end ≡ end_of (walk (program_of m) order depth f (first_registers c (held_numbers arguments)) memory)
run_is m checked distinct order are f depth any arguments memory end (name, called, call) deep c there r =
    let entry : List ℕ × FunctionView = (r.name, r.called) in
    let same : (name, called) ≡ entry = same_Some {A = List ℕ × FunctionView} (name, called) entry (sym call.there ∙ r.there) in
    let body : is_some r.called.body ≡ true = subst (λ (e : List ℕ × FunctionView). is_some e.1.body ≡ true) same call.body in
    let d = deep entry r.there in
    let steps : d.0 ≡ r.steps = one_length m r.name d.0 r.steps d.1 r.length in
    let long : r.steps + 1 ≡ depth = ap (λ n. n + 1) (sym steps) ∙ sym d.2 in
    let code : code_of m r.called ≡ c = same_Some (code_of m r.called) c (sym (code_at m f (Some entry) r.there) ∙ there) in
    r.is
    ∙ run_walks m checked distinct order are f entry r.steps arguments memory r.there body r.length
    ∙ ap (λ n. end_of_walk (program_of m) order n (code_of m r.called) f arguments memory) long
    ∙ ap (λ (k : Code). end_of (walk (program_of m) order depth f (first_registers k (held_numbers arguments)) memory)) code

-- ---- the objects of a kernel

constants_are : (m : ModuleView) → map (λ (o : Object). o.constant) (program_of m).objects ≡ map (λ (g : List ℕ × GlobalView). g.1.constant) m.globals
constants_are m = fused m.globals
  where
    fused : (gs : List (List ℕ × GlobalView)) → map (λ (o : Object). o.constant) (map (λ (e : List ℕ × GlobalView). object_of m e.1) gs) ≡ map (λ (g : List ℕ × GlobalView). g.1.constant) gs
    fused [] = refl
    fused (g ∷ gs) = ap (λ l. g.1.constant ∷ l) (fused gs)

pub fits_kernel : (m : ModuleView) (l : LayoutView) (P : Program) (start memory : MemoryView) → IsLayoutOf m l → P ≡ program_of m → AreOriginsOf l.objects start.origins → memory ≡ start
    → FitsMemory l.objects P.objects memory
fits_kernel m l P start memory laid_out is origins same = record {
  origins = subst (λ (n : MemoryView). AreOriginsOf l.objects n.origins) (sym same) origins;
  whole = laid_out.shapes;
  program = laid_out.constants ∙ sym (constants_are m) ∙ ap (λ (Q : Program). map (λ (o : Object). o.constant) Q.objects) (sym is);
}

-- ---- the first function

-- t1: the caller is made; t2: the function begins
pub begins_outside : (P : Program) (f : ℕ) (t0 t1 t2 : List Node) (v : Reading) (c : Code) (caller begun : Exec) (m : MemoryView) (file : File) (blocks : ℕ)
    → slice_get P.functions f ≡ Some c → blocks ≡ length c.blocks → Extends t0 t1 → Extends t1 t2 → IsOver t0 m → IsFile t0 file
    → is_true t1 caller.guard v ≡ true → is_true t1 caller.stuck v ≡ false → seen t2 v begun ≡ called blocks (registers_of t1 v file) (seen t1 v caller)
    → Rests P f (seen t2 v begun) (memory_at t2 m v) (On (Goes 0 0 (registers_of t0 v file) (memory_at t0 m v)))
begins_outside P f t0 t1 t2 v c caller begun m file blocks there long e01 e12 over is_file on quiet begins =
    let same : blocks ≡ length (body_of P f) = long ∙ ap length (ap blocks_in (sym there)) in
    let shown : seen t2 v begun ≡ called (length (body_of P f)) (registers_of t0 v file) (seen t1 v caller) =
    begins ∙ ap (λ n. called n (registers_of t1 v file) (seen t1 v caller)) same ∙ ap (λ rs. called (length (body_of P f)) rs (seen t1 v caller)) (registers_kept t0 t1 e01 file is_file v) in
    subst (λ k. Rests P f (seen t2 v begun) k (On (Goes 0 0 (registers_of t0 v file) (memory_at t0 m v)))) (sym (memory_kept t0 t2 (followed t0 t1 t2 e01 e12) m over v))
    (subst (λ s. Rests P f s (memory_at t0 m v) (On (Goes 0 0 (registers_of t0 v file) (memory_at t0 m v)))) (sym shown)
    (rests_going P f (seen t1 v caller) (memory_at t0 m v) (registers_of t0 v file) (registers_of t0 v file) on quiet (record { size = refl; same = λ k h q. q })))

-- t1: the registers are made, over the memory of t0; t2: the function came to its end
pub runs_tell : (k c : Module) (P : Program) (order : ℕ → List ℕ) (f depth more : ℕ) (arguments : List ℕ) (t0 t1 t2 : List Node) (start m0 m1 : MemoryView) (file : File) (after : Exec) (code : Code)
    → c ≡ k → IsChecked (view_module k) → IsDistinct bytes_eq (names_of (view_module k).functions) → P ≡ program_of (view_module k) → AreOrders (view_module c) order
    → CanCall (view_module k) f arguments → IsDepth (view_module c) f depth → slice_get P.functions f ≡ Some code → more ≡ code.registers - code.parameters
    → Extends t0 t1 → m0 ≡ start → IsOver t0 start → ((v : Reading) → registers_of t1 v file ≡ held_numbers (arguments_at t0 v arguments) ++ unset more)
    → ((v : Reading) → Rests P f (seen t2 v after) (memory_at t2 m1 v) (On (walk P order depth f (registers_of t1 v file) (memory_at t1 m0 v))))
    → (v : Reading) (end : End) → IsRun (view_module k) f (arguments_at t0 v arguments) (memory_at t0 start v) end → Tells t2 v after.stuck after.value m1 end
runs_tell k c P order f depth more arguments t0 t1 t2 start m0 m1 file after code same checked distinct is are can deep there long grown copied over meant rests v end r =
    let m : ModuleView = view_module k in
    let numbers : List ℕ = arguments_at t0 v arguments in
    let first : Registers = first_registers code (held_numbers numbers) in
    let found : slice_get (program_of m).functions f ≡ Some code = subst (λ (Q : Program). slice_get Q.functions f ≡ Some code) is there in
    let registers : registers_of t1 v file ≡ first = meant v ∙ ap (λ n. held_numbers numbers ++ unset n) long in
    let memory : memory_at t1 m0 v ≡ memory_at t0 start v = ap (λ (n : MemoryView). memory_at t1 n v) copied ∙ memory_kept t0 t1 grown start over v in
    tells P f t2 v after m1 order depth (registers_of t1 v file) (memory_at t1 m0 v) (rests v) end
    (run_is m checked distinct order (subst (λ (n : Module). AreOrders (view_module n) order) same are) f depth arguments numbers (memory_at t0 start v) end can
    (subst (λ (n : Module). IsDepth (view_module n) f depth) same deep) code found r
    ∙ ap (λ (Q : Program). end_of (walk Q order depth f first (memory_at t0 start v))) (sym is)
    ∙ ap (λ rs. end_of (walk P order depth f rs (memory_at t0 start v))) (sym registers)
    ∙ ap (λ n. end_of (walk P order depth f (registers_of t1 v file) n)) (sym memory))

-- All that is kept of a kernel, and the view that it stands for.
use Rattle.std.proofs.Common.{◌≡◌, ℕ, ◌<◌, ◌^◌, List, map, length, sym, ◌∙◌, ap, subst}
use Rattle.std.specs.List.{All}
use Rattle.std.proofs.lemmas.List.{length-map}
use Rattle.std.proofs.lemmas.List.Elements.{All-map}
use Rattle.ir_ast.specs.Program.{ModuleView}
use Rattle.ir_measure.specs.declared.shapes.Shapes.{Shapes}
use Rattle.ir_measure.specs.Shaped.{IsSound}
use Rattle.spec_names.specs.Kernel as plain
use Rattle.spec_kernel.specs.declared.rows.GlobalRow.{GlobalRow}
use Rattle.spec_kernel.specs.declared.rows.FunctionRow.{FunctionRow}
use Rattle.spec_kernel.specs.Firsts.{AreFirsts}
use Rattle.spec_kernel.specs.View.{global_of, function_of, kernel_of}
use Rattle.spec_kernel.specs.Seen.{SeenGlobal, SeenFunction, see_global, see_function, seen_of, global_in, function_in, kernel_in, IsShape, IsKept}
use Rattle.spec_kernel.proofs.RowLaws.{rows_count, fused}

pub kernel_made : (s : Shapes) (globals : List GlobalRow) (functions : List FunctionRow) (m now : ModuleView) → map (λ r. global_in s (see_global r)) globals ≡ map (global_of m.types) m.globals
    → map (λ r. function_in (see_function r)) functions ≡ map (function_of m.types) m.functions → m ≡ now → kernel_in (seen_of s globals functions) ≡ kernel_of now
kernel_made s globals functions m now gs fs same =
    ap (λ (xs : List plain.Global). record { globals = xs; functions = map function_in (map see_function functions) }) (fused (global_in s) see_global globals ∙ gs)
    ∙ ap (λ (xs : List plain.Function). record { globals = map (global_of m.types) m.globals; functions = xs }) (fused function_in see_function functions ∙ fs)
    ∙ ap kernel_of same

few : {R X Y E : Type 0} (h : R → Y) (f : X → Y) (view : E → X) (rows : List R) (table : List E) → map h rows ≡ map f (map view table) → length table < 2 ^ 32 → length rows < 2 ^ 32
few h f view rows table e small = subst (λ n. n < 2 ^ 32) (sym (rows_count h f rows (map view table) e ∙ length-map table view)) small

pub kept_made : {E F X Z : Type 0} (s : Shapes) (globals gs : List GlobalRow) (functions fs : List FunctionRow) (gp fp : List (List ℕ × ℕ))
    (f : X → plain.Global) (view : E → X) (table : List E) (g : Z → plain.Function) (see : F → Z) (entries : List F)
    → IsSound s → All (λ r. IsShape s r.shape) globals
    → map (λ r. global_in s (see_global r)) globals ≡ map f (map view table) → length table < 2 ^ 32
    → map (λ r. function_in (see_function r)) functions ≡ map g (map see entries) → length entries < 2 ^ 32
    → gs ≡ globals → fs ≡ functions → AreFirsts gp (map (λ g. g.name.now) gs) → AreFirsts fp (map (λ f. f.name.now) fs) → IsKept (seen_of s globals functions) gp fp
kept_made s globals gs functions fs gp fp f view table g see entries sound known rows small others smaller same also names places = record {
  sound = sound;
  known = All-map (λ (g : SeenGlobal). IsShape s g.shape) see_global globals known;
  few_globals = subst (λ n. n < 2 ^ 32) (sym (length-map globals see_global)) (few (λ r. global_in s (see_global r)) f view globals table rows small);
  few_functions = subst (λ n. n < 2 ^ 32) (sym (length-map functions see_function)) (few (λ r. function_in (see_function r)) g see functions entries others smaller);
  global_names = subst (AreFirsts gp) (ap (map (λ g. g.name.now)) same ∙ sym (fused (λ (g : SeenGlobal). g.name) see_global globals)) names;
  function_names = subst (AreFirsts fp) (ap (map (λ f. f.name.now)) also ∙ sym (fused (λ (f : SeenFunction). f.name) see_function functions)) places;
}

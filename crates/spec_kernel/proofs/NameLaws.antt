-- Names of rows, and of what they stand for.
use Rattle.std.proofs.Common.{◌≡◌, ℕ, List, [], ◌∷◌, Option, Some, map, refl, sym, ◌∙◌, ap}
use Rattle.std.specs.Prelude.{bytes_eq, position, slice_get, option_map}
use Rattle.std.proofs.lemmas.Option.{slice_get-map}
use Rattle.ir_measure.specs.declared.shapes.Shapes.{Shapes}
use Rattle.spec_names.specs.Kernel.{global_place, function_place}
use Rattle.spec_kernel.specs.declared.rows.GlobalRow.{GlobalRow}
use Rattle.spec_kernel.specs.declared.rows.FunctionRow.{FunctionRow}
use Rattle.spec_kernel.specs.Firsts.{place_at, AreFirsts}
use Rattle.spec_kernel.specs.Seen.{SeenGlobal, SeenFunction, Seen, see_global, see_function, seen_of, global_in, function_in, kernel_in}

global_names : (s : Shapes) (gs : List SeenGlobal) → map (λ g. g.name) (map (global_in s) gs) ≡ map (λ g. g.name) gs
global_names s [] = refl
global_names s (g ∷ gs) = ap (λ xs. g.name ∷ xs) (global_names s gs)

function_names : (fs : List SeenFunction) → map (λ f. f.name) (map function_in fs) ≡ map (λ f. f.name) fs
function_names [] = refl
function_names (f ∷ fs) = ap (λ xs. f.name ∷ xs) (function_names fs)

pub global_found : (k now : Seen) (firsts : List (List ℕ × ℕ)) (x : List ℕ) (o : Option ℕ) → AreFirsts firsts (map (λ g. g.name) k.globals) → k ≡ now → o ≡ place_at x firsts → o ≡ global_place (kernel_in now) x
global_found k now firsts x o are same is = is ∙ are x ∙ sym (ap (position (bytes_eq x)) (global_names k.shapes k.globals)) ∙ ap (λ k. global_place (kernel_in k) x) same

pub function_found : (k now : Seen) (firsts : List (List ℕ × ℕ)) (x : List ℕ) (o : Option ℕ) → AreFirsts firsts (map (λ f. f.name) k.functions) → k ≡ now → o ≡ place_at x firsts → o ≡ function_place (kernel_in now) x
function_found k now firsts x o are same is = is ∙ are x ∙ sym (ap (position (bytes_eq x)) (function_names k.functions)) ∙ ap (λ k. function_place (kernel_in k) x) same

-- the global at a place
pub global_there : (s : Shapes) (rows : List GlobalRow) (functions : List FunctionRow) (now : Seen) (i : ℕ) (r : GlobalRow) → slice_get rows i ≡ Some r → seen_of s rows functions ≡ now
    → slice_get (kernel_in now).globals i ≡ Some (global_in s (see_global r))
global_there s rows functions now i r there same =
    sym (ap (λ (k : Seen). slice_get (kernel_in k).globals i) same)
    ∙ slice_get-map (global_in s) (map see_global rows) i
    ∙ ap (option_map (global_in s)) (slice_get-map see_global rows i ∙ ap (option_map see_global) there)

pub function_there : (s : Shapes) (globals : List GlobalRow) (rows : List FunctionRow) (now : Seen) (i : ℕ) (r : FunctionRow) → slice_get rows i ≡ Some r → seen_of s globals rows ≡ now
    → slice_get (kernel_in now).functions i ≡ Some (function_in (see_function r))
function_there s globals rows now i r there same =
    sym (ap (λ (k : Seen). slice_get (kernel_in k).functions i) same)
    ∙ slice_get-map function_in (map see_function rows) i
    ∙ ap (option_map function_in) (slice_get-map see_function rows i ∙ ap (option_map see_function) there)

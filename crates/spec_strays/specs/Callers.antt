-- Calls of a kernel by the places of functions, turned round: for each function those that call it.
use Rattle.std.specs.Prelude.{◌≡◌, ◌<◌, ℕ, true, if◌then◌else◌, Option, Some, None, List, [], ◌∷◌, ◌++◌, length, slice_get, slice_set}
use Rattle.std.specs.List.{Contains}
use Rattle.hk_graph.specs.Walks.{targets_of, HasEdge}
use Rattle.spec_names.specs.Kernel.{Name, Function, Kernel, function_place}

-- the body of the function at the place f calls a name, and the first function of that name stands at the place p
abbrev pub HasCall : Kernel → ℕ → ℕ → Type 0
HasCall k f p =
    (function : Function) × (slice_get k.functions f ≡ Some function) × (function.defined ≡ true)
    × (g : Name) × Contains function.calls g × (function_place k g ≡ Some p)

-- the edges are the calls of the functions before the place n, from the one that is called to the caller
pub record AreCallers (k : Kernel) (n : ℕ) (callers : List (List ℕ)) : Type 0 where
  pub sizes : length callers ≡ length k.functions
  pub told : (p f : ℕ) → HasEdge callers p f → (f < n) × HasCall k f p
  pub all : (p f : ℕ) → f < n → HasCall k f p → HasEdge callers p f

-- ---- how they are found

-- one more caller of the function at a place
abbrev pub with_caller : List (List ℕ) → ℕ → ℕ → List (List ℕ)
with_caller callers p f = slice_set callers p (targets_of callers p ++ f ∷ [])

abbrev pub with_call : List (List ℕ) → ℕ → Option ℕ → List (List ℕ)
with_call callers f None = callers
with_call callers f (Some p) = with_caller callers p f

-- the function at the place f calls these
abbrev pub with_calls : Kernel → List (List ℕ) → ℕ → List Name → List (List ℕ)
with_calls k callers f [] = callers
with_calls k callers f (g ∷ gs) = with_calls k (with_call callers f (function_place k g)) f gs

-- only a function with a body calls
abbrev pub with_function : Kernel → List (List ℕ) → ℕ → Option Function → List (List ℕ)
with_function k callers f None = callers
with_function k callers f (Some function) = if function.defined then with_calls k callers f function.calls else callers

-- What a checked module carries for the layers above: facts of its functions, in the forms that runs and walks use.
use Rattle.std.specs.Prelude.{◌≡◌, ◌≢◌, ℕ, ◌<◌, ◌≤◌, Option, Some, unwrap_or, List, [], ◌∷◌, ◌++◌, map, sum, length, slice_get, slice_index_or, Contains}
use Rattle.std.specs.List.{All, AllPairs}
use Rattle.ir_ast.specs.Plain.{Ty, Val}
use Rattle.ir_ast.specs.Program.{phi, InstrView, BlockView, FunctionView, ModuleView}
use Rattle.hk_graph.specs.Walks.{Walks}
use Rattle.hk_flow.specs.Sums.{told}
use Rattle.ir_type.specs.Items.{IsFunction}
use Rattle.ir_type.specs.Shape.{IsShaped}
use Rattle.ir_typing.specs.Registers.{blocks_of}
use Rattle.ir_check.specs.Paths.{HasEdge, IsEntry, Use, uses, set_along, weight, body_of, IsLength, FallsK10}
use Rattle.ir_check.specs.Arms.{MeetsCounts}
use Rattle.ir_check.specs.Rules.{IsWellFormed}

-- the places of all blocks, each once, in an order in which each edge goes forward
pub record IsForward (f : FunctionView) (order : List ℕ) : Type 0 where
  pub once : AllPairs (λ k j. k ≢ j) order
  pub each : (k : ℕ) → k < length (blocks_of f) → Contains order k
  pub within : All (λ k. k < length (blocks_of f)) order
  pub forward : (before after : List ℕ) (k j : ℕ) (a b : BlockView) → order ≡ before ++ k ∷ after
      → slice_get (blocks_of f) k ≡ Some a → slice_get (blocks_of f) j ≡ Some b → HasEdge f a.name b.name → Contains after j

-- each register that an instruction uses is set along each path from the first block to the use
abbrev pub AreSet : FunctionView → Type 0
AreSet f =
    (b : BlockView) (before after : List InstrView) (i : InstrView) (u : Use) → Contains (blocks_of f) b → b.instrs ≡ before ++ i ∷ after → Contains (uses f b before i.act) u
    → (x : List ℕ) (left : List (List ℕ)) → IsEntry f x → Walks (HasEdge f) x left u.block → Contains (set_along f left u.behind) u.register

-- each phi names each block as often as it has edges to the block of the phi, so it has an arm for each edge that a path takes
abbrev pub AreCounted : FunctionView → Type 0
AreCounted f =
    (b : BlockView) (i : InstrView) (over : Ty) (arms : List (Val × List ℕ)) → Contains (blocks_of f) b → Contains b.instrs i → i.act ≡ phi over arms → MeetsCounts f b arms

-- lengths of all functions; a callee's length is below its caller's, so they are a depth of calls
abbrev pub AreLengths : ModuleView → (List ℕ → ℕ) → Type 0
AreLengths m length_of = (g : List ℕ) → length_of g ≡ sum (map (weight length_of) (body_of m g))

-- a module that was checked
pub record IsChecked (m : ModuleView) : Type 0 where
  pub shaped : IsShaped m
  pub well_formed : IsWellFormed m
  pub set : (f : FunctionView) → IsFunction m f → AreSet f
  pub counted : (f : FunctionView) → IsFunction m f → AreCounted f
  pub lengths : (length_of : List ℕ → ℕ) × AreLengths m length_of

-- ---- what is kept of the functions, by their places

-- orders of the first k functions whose blocks have one
abbrev pub OrdersFirst : ModuleView → ℕ → List (List ℕ) → Type 0
OrdersFirst m k orders = (p : ℕ) (e : List ℕ × FunctionView) → p < k → slice_get m.functions p ≡ Some e → (FallsK10 e.1 → ⊥) → IsForward e.1 (slice_index_or orders p [])

abbrev pub AreOrders : ModuleView → List (List ℕ) → Type 0
AreOrders m orders = (p : ℕ) (e : List ℕ × FunctionView) → slice_get m.functions p ≡ Some e → IsForward e.1 (slice_index_or orders p [])

-- the length that is told of the function at a place
abbrev pub length_at : List (Option ℕ) → ℕ → ℕ
length_at lengths p = unwrap_or (told lengths p) 0

abbrev pub AreTold : ModuleView → List (Option ℕ) → Type 0
AreTold m lengths = (p : ℕ) (e : List ℕ × FunctionView) → slice_get m.functions p ≡ Some e → IsLength m e.0 (length_at lengths p)

pub record IsKept (m : ModuleView) (orders : List (List ℕ)) (lengths : List (Option ℕ)) : Type 0 where
  pub shaped : IsShaped m
  pub well_formed : IsWellFormed m
  pub count : length m.functions ≤ length orders
  pub orders_are : AreOrders m orders
  pub lengths_are : AreTold m lengths

abbrev pub IsKeptWhere : ModuleView → List (List ℕ) → List (Option ℕ) → Type 0
IsKeptWhere m orders lengths = IsWellFormed m → IsKept m orders lengths

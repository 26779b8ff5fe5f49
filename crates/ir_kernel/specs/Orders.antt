-- The orders and the lengths of a module's functions, by their places.
use Rattle.std.specs.Prelude.{◌≡◌, ℕ, ◌<◌, Option, Some, None, List, [], slice_get}
use Rattle.ir_ast.specs.Program.{FunctionView, ModuleView}
use Rattle.ir_check.specs.Checked.{IsForward}

-- each edge of the function goes forward in the order; where there is no function the order has no block
abbrev pub IsOrderAt : Option (List ℕ × FunctionView) → List ℕ → Type 0
IsOrderAt None order = order ≡ []
IsOrderAt (Some e) order = IsForward e.1 order

abbrev pub AreOrders : ModuleView → (ℕ → List ℕ) → Type 0
AreOrders m order = (p : ℕ) → IsOrderAt (slice_get m.functions p) (order p)

-- each of the first n functions has an order
abbrev pub AreFirstOrdered : ModuleView → ℕ → Type 0
AreFirstOrdered m n = (p : ℕ) (e : List ℕ × FunctionView) → p < n → slice_get m.functions p ≡ Some e → (order : List ℕ) × IsForward e.1 order

-- each function has an order
abbrev pub AreOrdered : ModuleView → Type 0
AreOrdered m = (p : ℕ) (e : List ℕ × FunctionView) → slice_get m.functions p ≡ Some e → (order : List ℕ) × IsForward e.1 order

abbrev pub length_of_entry : (List ℕ → ℕ) → Option (List ℕ × FunctionView) → ℕ
length_of_entry length_of None = 0
length_of_entry length_of (Some e) = length_of e.0

-- the length of the function at a place
abbrev pub length_at : ModuleView → (List ℕ → ℕ) → ℕ → ℕ
length_at m length_of p = length_of_entry length_of (slice_get m.functions p)

-- What the calls that take expressions answer.
use Rattle.std.specs.Prelude.{◌≡◌, true, ◌&&◌, Option, Some, None, List, Result, Ok, Err}
use Rattle.spec_ast.specs.Raw.{Tree}
use Rattle.spec_tree.specs.View.{view_expr, view_step_list}
use Rattle.spec_names.specs.Kernel.{Name}
use Rattle.spec_scope.specs.Scope.{Scope, first, own}
use Rattle.spec_scope.specs.Taking.{pair, given_at, Led, take}
use Rattle.spec_scope.specs.Free.{is_free}
use Rattle.spec_scope.specs.declared.meaning.Kind.{Kind}
use Rattle.spec_scope.specs.declared.typed.Typed.{Typed}
use Rattle.spec_scope.specs.declared.typed.Pair.{Pair}
use Rattle.spec_scope.specs.declared.typed.Reached.{Reached}
use Rattle.spec_scope.specs.declared.typed.TakeStop.{TakeStop}
use Rattle.spec_scope.specs.declared.typed.TakeStop.TheVariants.{Unfit, Memory}

-- an answer is what the definition gives, and a refusal comes exactly where it gives none
abbrev pub Gives : {A B : Type 0} → (A → B) → Result A TakeStop → Option B → Type 0
Gives view (Ok x) o = o ≡ Some (view x)
Gives view (Err Unfit) o = o ≡ None
Gives view (Err Memory) o = Unit {0}

-- what has a width of its own stands for one expression, at a place that asks for that width alone; what has none is numbers and
-- constants
abbrev pub Infers : Scope → List Name → Tree → Result (Option Typed) TakeStop → Type 0
Infers s b e (Ok (Some t)) = (own s e ≡ Some t.kind) × ((kind : Kind) → take s b kind e ≡ given_at kind t.kind (view_expr t.tree))
Infers s b e (Ok None) = is_free s e ≡ true
Infers s b e (Err Unfit) = (kind : Kind) → take s b kind e ≡ None
Infers s b e (Err Memory) = Unit {0}

-- the same of two operands, which have the first own width of the two
abbrev pub Pairs : Scope → List Name → Tree → Tree → Result (Option Pair) TakeStop → Type 0
Pairs s b a c (Ok (Some p)) =
    (first (own s a) (own s c) ≡ Some p.kind) × ((kind : Kind) → pair (take s b kind a) (take s b kind c) ≡ given_at kind p.kind (view_expr p.left, view_expr p.right))
Pairs s b a c (Ok None) = (is_free s a && is_free s c) ≡ true
Pairs s b a c (Err Unfit) = (kind : Kind) → pair (take s b kind a) (take s b kind c) ≡ None
Pairs s b a c (Err Memory) = Unit {0}

abbrev pub view_reached : Reached → Led
view_reached r = record { base = r.base; at = view_step_list r.steps; size = r.bytes }

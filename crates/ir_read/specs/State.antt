-- What the items of a text have spelled so far.
use Rattle.std.specs.Prelude.{ℕ, Bool, true, false, Option, Some, None, List, []}
use Rattle.ir_ast.specs.Program.{BlockView, FunctionView, ModuleView}

-- a function whose body goes on: the function without its blocks, the names of its scope, the blocks that have ended, and the one
-- that has not
pub record BodyState : Type 0 where
  pub head : FunctionView
  pub names : List (List ℕ)
  pub blocks : List BlockView
  pub block : Option BlockView

-- the module of what is whole, and the function whose body goes on
pub record State : Type 0 where
  pub whole : ModuleView
  pub body : Option BodyState

abbrev pub no_items : ModuleView
no_items = record { layout_text = None; types = []; globals = []; functions = []; ranges = [] }

abbrev pub at_start : State
at_start = record { whole = no_items; body = None }

-- the place behind such items is inside of a body
abbrev pub is_inside : State → Bool
is_inside s = elim s.body as (λ _. Bool) [ None ↦ false | Some b ↦ true ]

abbrev pub outside : ModuleView → State
outside m = record { whole = m; body = None }

abbrev pub inside : ModuleView → BodyState → State
inside m b = record { whole = m; body = Some b }

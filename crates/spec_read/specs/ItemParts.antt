-- The parts of lines that calls read by themselves.
use Rattle.std.specs.Prelude.{ℕ, max, Option, Some, None, List}
use Rattle.spec_ast.specs.Raw.{Tree, Item, write_line, end_line}
use Rattle.spec_expr.specs.Words.{Text}
use Rattle.spec_expr.specs.Grown.{Grown, lift, join}
use Rattle.spec_expr.specs.Reading.{expr_at}
use Rattle.spec_expr.specs.Fronts.{gone_on}
use Rattle.spec_read.specs.ItemReading.{follows, at_end, or_else, let_from, var_from, copied_from, same_depth, expr_end}

-- an expression up to the end of the line
abbrev pub to_end : ℕ → ℕ → List Text → Option (Grown Tree)
to_end most n ts = follows (expr_at most n ts) (λ e rest. at_end e rest)

-- the same with the line that it makes
abbrev pub ended_by : ℕ → ℕ → (Grown Tree → Grown Item) → List Text → Option (Grown Item)
ended_by most n item ts = gone_on (to_end most n ts) (λ e. Some (item e))

abbrev pub variable_or_copy : Text → List Text → Option (Grown Item)
variable_or_copy x ts = or_else (var_from x ts) (copied_from x ts)

abbrev pub let_or_variable : ℕ → ℕ → Text → List Text → Option (Grown Item)
let_or_variable most n x ts = or_else (let_from most n x ts) (var_from x ts)

-- behind `NAME . NAME =`
abbrev pub plain_from : ℕ → ℕ → Text → Text → List Text → Option (Grown Item)
plain_from most n c f ts = expr_end most n (lift most (write_line c f None) same_depth) ts

-- behind `return EXPR , NAME ,`
abbrev pub result_behind : ℕ → ℕ → Grown Tree → Text → List Text → Option (Grown Item)
result_behind most n e s ts = expr_end most n (join most (λ x r. end_line x s (Some r)) max e) ts

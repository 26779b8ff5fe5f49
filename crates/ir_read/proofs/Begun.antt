-- A body whose scope is refused does not begin.
use Rattle.std.proofs.Common.{ℕ, List, Option, Err, ap}
use Rattle.ir_ast.specs.Program.{FunctionView, BlockView}
use Rattle.ir_read.specs.Steps.{Out, begun}
use Rattle.ir_read.specs.View.{Gives, view_body}
use Rattle.ir_read.specs.declared.stop.Stop.{Stop}
use Rattle.ir_read.specs.declared.stop.Stop.TheVariants.{Refused, Memory}

pub begun_err : (stop : Stop) (names : Out (List (List ℕ))) (f : FunctionView) (block : Option BlockView)
    → Gives {A = List (List ℕ)} (λ n. n) (Err stop) names → Gives view_body (Err stop) (begun names f block)
begun_err (Refused reason) names f block h = ap (λ o. begun o f block) h
begun_err Memory names f block h = tt

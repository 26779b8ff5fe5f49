use Rattle.std.proofs.Common.{◌≡◌, ◌++◌, drop, map}
use Rattle.std.specs.Prelude.{None}
use Rattle.ir_ast.specs.View.{view_type}
use Rattle.ir_resolve.specs.Acts.{spans_from}
use Rattle.ir_resolve.proofs.access.spans_in.Given as goal

abbrev pub invariant-each : goal.invariant-each
invariant-each l =
    l.spans ++ spans_from l.width l.low (map (λ n. (view_type n.0, n.1)) (drop l.bound-index l.bounds)) ≡ spans_from l.width None (map (λ n. (view_type n.0, n.1)) l.bounds)

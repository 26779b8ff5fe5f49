use Rattle.std.proofs.Common.{ℕ, ◌<◌}
use Rattle.ir_ast.specs.ProgramView.{view_module}
use Rattle.spec_tree.specs.View.{view_spec, view_transition}
use Rattle.hk_case.specs.Violation.{Violates}
use Rattle.hk_exhaust.specs.Enumeration.{case_at}
use Rattle.hk_exhaust.proofs.search.find_among.Given as goal

-- no case so far violates the obligation
abbrev pub invariant-each : goal.invariant-each
invariant-each l =
    (n : ℕ) → n < l.number → Violates (view_module l.kernel) (view_spec l.handler.spec.now) (view_transition l.handler.transition.now) l.o (case_at l.layout.objects (view_spec l.handler.spec.now) (view_transition l.handler.transition.now) l.o n) → ⊥

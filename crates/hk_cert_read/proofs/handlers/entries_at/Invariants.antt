use Rattle.std.proofs.Common.{◌≡◌, [], drop, map}
use Rattle.hk_cnf.specs.Text.{lines_of}
use Rattle.ir_ast.specs.ProgramView.{view_module}
use Rattle.ir_layout.specs.Layouts.{LayoutView, IsLayoutOf}
use Rattle.spec_tree.specs.View.{view_spec}
use Rattle.hk_cert.specs.Steps.{place_of}
use Rattle.hk_cert.specs.Reading.{entries_from}
use Rattle.hk_cert_read.proofs.handlers.entries_at.Given as goal

abbrev pub invariant-each : goal.invariant-each
invariant-each l =
    (layout : LayoutView) → IsLayoutOf (view_module l.kernel) layout → l.start ≡ map (λ o. o.bytes) layout.objects
    → entries_from (view_module l.kernel) layout.objects (view_spec l.spec) l.entries (drop l.h (view_spec l.spec).transitions) (record { next = l.line; lines = lines_of l.text })
    ≡ entries_from (view_module l.kernel) layout.objects (view_spec l.spec) [] (view_spec l.spec).transitions (place_of l.fn.at)

use Rattle.std.proofs.Common.{sym, subst, ◌<◌}
use Rattle.std.specs.Prelude.{All}
use Rattle.ir_ast.specs.ProgramView.{view_module}
use Rattle.spec_tree.specs.View.{view_spec, view_transition}
use Rattle.hk_case.specs.Obligations.{IsCase}
use Rattle.hk_case.specs.Violation.{Violates}
use Rattle.hk_exhaust.specs.Answers.{Tells}
use Rattle.hk_exhaust.proofs.Shapes.{AreFilled, case_shaped}
use Rattle.hk_exhaust.proofs.Facts.{shape_of_case, objects_are}
use Rattle.hk_exhaust.proofs.search.found_at.Goals as goal

pub case_violates-requires-clause-shape : goal.case_violates-requires-clause-shape
case_violates-requires-clause-shape c =
    let s = view_spec c.args.handler.now.spec.now in
    let t = view_transition c.args.handler.now.transition.now in
    let os = c.args.layout.now.objects in
    let filled : AreFilled os = record { sizes = c.requires.layout.shapes; bytes = subst (All (λ o. All (λ b. b < 256) o)) c.requires.initial c.requires.bytes } in
    shape_of_case c.args.handler.now.spec.now c.args.handler.now.transition.now os c.args.o c.in_ok-case.case (objects_are (view_module c.args.kernel.now) s c.args.layout.now c.requires.fits c.requires.layout)
    (subst (IsCase os s t c.args.o) (sym c.in_ok-case.ensures) (case_shaped os s t c.args.o c.args.number filled))

pub returns-then-found : goal.returns-then-found
returns-then-found c =
    let s = view_spec c.args.handler.now.spec.now in
    let t = view_transition c.args.handler.now.transition.now in
    let os = c.args.layout.now.objects in
    let filled : AreFilled os = record { sizes = c.requires.layout.shapes; bytes = subst (All (λ o. All (λ b. b < 256) o)) c.requires.initial c.requires.bytes } in (
      subst (IsCase os s t c.args.o) (sym c.in_ok-case.ensures) (case_shaped os s t c.args.o c.args.number filled),
      subst (λ b. Tells b (Violates (view_module c.args.kernel.now) s t c.args.o c.in_ok-case.case)) c.if-found.true c.in_ok-found.ensures,
    )

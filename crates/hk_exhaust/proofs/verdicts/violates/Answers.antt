use Rattle.std.proofs.Common.{rules, ◌≡◌, ◌↔◌, subst, slice_index_or}
use Rattle.std.specs.Prelude.{IsTrue}
use Rattle.ir_ast.specs.ProgramView.{view_module}
use Rattle.spec_tree.specs.View.{view_spec, view_transition}
use Rattle.hk_case.specs.Violation.{Violates}
use Rattle.spec_state.proofs.Turns.{there_at, found_at}
use Rattle.hk_exhaust.proofs.Facts.{owed_by, shape_of_case, objects_are, tells_exactly}
use Rattle.hk_exhaust.proofs.verdicts.violates.Goals as goal

pub case_violates-requires-clause-owed : goal.case_violates-requires-clause-owed
case_violates-requires-clause-owed c =
    let x = c.index-as_slice-h.result in
    let is : x ≡ slice_index_or c.args.spec.now.transitions c.args.h x = search rules in
    owed_by c.args.spec.now (view_transition x) c.args.o (c.requires.obligation (view_transition x) (there_at view_transition c.args.spec.now.transitions c.args.h x c.requires.there is))

pub case_violates-requires-clause-shape : goal.case_violates-requires-clause-shape
case_violates-requires-clause-shape c =
    let x = c.index-as_slice-h.result in
    let is : x ≡ slice_index_or c.args.spec.now.transitions c.args.h x = search rules in
    let l = c.layout.result.now in
    shape_of_case c.args.spec.now x l.objects c.args.o c.args.case.now (objects_are (view_module c.args.kernel.now) (view_spec c.args.spec.now) l c.requires.fits c.layout.ensures)
    (c.requires.case l (view_transition x) c.layout.ensures (there_at view_transition c.args.spec.now.transitions c.args.h x c.requires.there is))

pub returns : goal.returns
returns c = λ t found.
    let x = c.index-as_slice-h.result in
    let is : x ≡ slice_index_or c.args.spec.now.transitions c.args.h x = search rules in
    let b = c.in_ok-case_violates.field-0 in
    subst (λ u. IsTrue b ↔ Violates (view_module c.args.kernel.now) (view_spec c.args.spec.now) u c.args.o c.args.case.now) (found_at view_transition c.args.spec.now.transitions c.args.h x t c.requires.there is found)
    (tells_exactly b (Violates (view_module c.args.kernel.now) (view_spec c.args.spec.now) (view_transition x) c.args.o c.args.case.now) c.in_ok-case_violates.ensures)

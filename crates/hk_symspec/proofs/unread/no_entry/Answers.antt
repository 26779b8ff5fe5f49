use Rattle.std.proofs.Common.{◌≡◌, ◌∙◌, Some, ap, sym, subst}
use Rattle.std.specs.Prelude.{slice_get}
use Rattle.spec_tree.specs.Plain as plain
use Rattle.spec_tree.specs.Sorted.{IsFieldSort, no_field}
use Rattle.spec_tree.specs.View.{view_field, view_spec}
use Rattle.hk_symspec.proofs.Turning.{mapped_at}
use Rattle.hk_symspec.proofs.EquationLaws.{field_sort}
use Rattle.hk_symspec.proofs.unread.no_entry.Goals as goal

pub constant-requires-clause-width : goal.constant-requires-clause-width
constant-requires-clause-width c =
    let s : plain.Spec = view_spec c.args.spec.now in
    let f : plain.Field = view_field c.field_at.result.now in
    let there : slice_get s.fields c.args.field ≡ Some f = mapped_at view_field c.args.spec.now.fields c.args.field c.field_at.result.now c.field_at.ensures in
    (subst IsFieldSort (field_sort s c.args.field f no_field there) c.requires.sort).wide

pub returns-clause-width : goal.returns-clause-width
returns-clause-width c =
    let s : plain.Spec = view_spec c.args.spec.now in
    let f : plain.Field = view_field c.field_at.result.now in
    let there : slice_get s.fields c.args.field ≡ Some f = mapped_at view_field c.args.spec.now.fields c.args.field c.field_at.result.now c.field_at.ensures in
    c.in_ok-made.ensures.width ∙ ap (λ x. x.width) (sym (field_sort s c.args.field f no_field there))

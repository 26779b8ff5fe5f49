use Rattle.std.proofs.Common.{◌∙◌, map, ap, sym}
use Rattle.spec_tree.specs.Sorted.{no_field}
use Rattle.spec_tree.specs.View.{view_field, view_key, view_spec}
use Rattle.hk_symspec.proofs.Turning.{mapped_at}
use Rattle.hk_symspec.proofs.EquationLaws.{field_sort}
use Rattle.hk_symspec_tests.proofs.fitting.keys_of.Goals as goal

pub returns : goal.returns
returns c =
    ap (map view_key) c.as_slice.ensures
    ∙ ap (λ x. x.keys) (sym (field_sort (view_spec c.args.spec.now) c.args.field (view_field c.field_at.result.now) no_field (mapped_at view_field c.args.spec.now.fields c.args.field c.field_at.result.now c.field_at.ensures)))

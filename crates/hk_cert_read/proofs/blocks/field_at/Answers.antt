use Rattle.std.proofs.Common.{◌≡◌, map, ap, sym, ◌∙◌, subst}
use Rattle.std.specs.Prelude.{All}
use Rattle.spec_tree.specs.Sorted.{IsSize, key_sizes, sort_of}
use Rattle.spec_tree.specs.View.{view_field, view_key}
use Rattle.spec_state.proofs.Points.{sizes_hold}
use Rattle.hk_cert_read.proofs.blocks.field_at.Goals as goal

pub count-requires-clause-some : goal.count-requires-clause-some
count-requires-clause-some c =
    let sizes : c.as_slice-2.result.now ≡ key_sizes (map view_key c.args.field.now.keys) = c.as_slice-2.ensures.value ∙ (c.in_ok-sizes.ensures ∙ ap (λ keys. key_sizes (map view_key keys)) c.as_slice.ensures) in
    subst (All IsSize) (sym sizes) (sizes_hold (sort_of (view_field c.args.field.now)) c.requires)

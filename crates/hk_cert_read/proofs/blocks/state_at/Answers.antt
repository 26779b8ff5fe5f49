use Rattle.spec_tree.specs.Sorted.{IsFieldSort, sort_of}
use Rattle.spec_tree.specs.View.{view_field}
use Rattle.spec_state.proofs.Turns.{all_at}
use Rattle.hk_cert_read.proofs.blocks.state_at.Goals as goal

pub field_at-requires : goal.field_at-requires
field_at-requires c = all_at (λ f. IsFieldSort (sort_of f)) view_field c.args.fields.now c.each.field-index c.field-item.result c.each-test.true c.field-item.is c.requires

use Rattle.spec_tree.specs.Sorted.{IsFieldSort, sort_of}
use Rattle.spec_tree.specs.View.{view_field}
use Rattle.spec_state.proofs.Turns.{all_at}
use Rattle.hk_exhaust.proofs.cases.take_state.Goals as goal

pub take_field-requires : goal.take_field-requires
take_field-requires c = all_at (λ f. IsFieldSort (sort_of f)) view_field c.args.fields.now c.each.field-index c.field-item.result c.each-test.true c.field-item.is c.requires

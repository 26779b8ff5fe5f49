use Rattle.spec_tree.specs.View.{view_spec}
use Rattle.spec_tree.specs.Meaning.{property_holds}
use Rattle.hk_exhaust.proofs.Telling.{all_told}
use Rattle.hk_exhaust.proofs.verdicts.has_properties.Goals as goal

pub returns : goal.returns
returns c = all_told (λ n. property_holds (view_spec c.args.spec.now) n c.args.state.now) (view_spec c.args.spec.now).properties c.in_ok-holds.holds c.in_ok-holds.ensures

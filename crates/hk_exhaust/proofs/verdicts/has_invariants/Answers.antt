use Rattle.spec_tree.specs.View.{view_spec}
use Rattle.spec_tree.specs.Meaning.{invariant_holds}
use Rattle.hk_exhaust.proofs.Telling.{all_told}
use Rattle.hk_exhaust.proofs.verdicts.has_invariants.Goals as goal

pub returns : goal.returns
returns c = all_told (λ n. invariant_holds (view_spec c.args.spec.now) n c.args.memory.now) (view_spec c.args.spec.now).invariants c.in_ok-holds.holds c.in_ok-holds.ensures

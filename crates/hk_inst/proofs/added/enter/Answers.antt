use Rattle.std.proofs.Common.{◌∙◌, ◌++◌, ◌∷◌, [], ap}
use Rattle.std.specs.Prelude.{if◌then◌else◌}
use Rattle.hk_inst.proofs.SameInstances.{any-same}
use Rattle.hk_inst.proofs.added.enter.Goals as goal

pub returns-clause-ok : goal.returns-clause-ok
returns-clause-ok c = c.in_ok-insert.ensures.keys ∙ ap (λ b. if b then c.args.set.now.keys else c.args.set.now.keys ++ c.args.i ∷ []) (any-same c.args.i c.args.set.now.keys ∙ c.requires)

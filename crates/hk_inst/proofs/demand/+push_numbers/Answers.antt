use Rattle.hk_inst.proofs.Subjects.{numbers-step}
use Rattle.hk_inst.proofs.demand.+push_numbers.Goals as goal

pub returns-in_ok-push-in-len1-up-indices : goal.returns-in_ok-push-in-len1-up-indices
returns-in_ok-push-in-len1-up-indices d c =
    numbers-step c.args.bound.now c.args.indices.now c.in-len1-up.len_at_least c.in-len1-up-indices.len_at_least c.requires _ _ c.args.pairs.now.items c.push_numbers.new.pairs.items c.push.new.self.items c.in_ok-push_numbers-in-len1-up-indices.ensures c.in_ok-push-in-len1-up-indices.ensures.items

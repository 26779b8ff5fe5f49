use Rattle.std.proofs.Common.{◌∙◌}
use Rattle.hk_unroll.proofs.ArrivingLaws.{arrivals_more}
use Rattle.hk_unroll.proofs.copies.Copies.step.Goals as goal

pub returns-in_ok-follow-clause-arrivals : goal.returns-in_ok-follow-clause-arrivals
returns-in_ok-follow-clause-arrivals c =
    arrivals_more c.args.graph.now c.args.most c.args.copy c.args.self.now.made.items c.follow.new.self.made.items c.args.self.now.layers.items c.follow.new.self.layers.items
    (c.in_ok-follow.ensures.made ∙ c.in_ok-push.ensures.items) c.requires.arrivals c.in_ok-follow.ensures.follows

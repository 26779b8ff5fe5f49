use Rattle.std.proofs.Common.{◌∙◌, ◌++◌, ap, reverse}
use Rattle.hk_inst.specs.Questions.{pairs_from}
use Rattle.hk_inst.proofs.WideStands.{pairs-turned}
use Rattle.hk_inst.proofs.prepare.pairs_for.Goals as goal

pub returns : goal.returns
returns c =
    c.reverse.ensures.items ∙ ap reverse (c.in_ok-push_pairs.ensures ∙ ap (λ l. l ++ pairs_from c.args.bound.now c.args.first) c.new-pairs.ensures.items)
    ∙ pairs-turned c.args.bound.now c.args.first

use Rattle.std.proofs.Common.{arith, length, ◌+◌, ◌∙◌}
use Rattle.hk_inst.proofs.WideStands.{wide-ready, wide-pass, ids-more}
use Rattle.hk_inst.specs.Growing.{ids_below}
use Rattle.hk_inst.proofs.prepare.body_at.Goals as goal

pub copy-requires-clause-ready : goal.copy-requires-clause-ready
copy-requires-clause-ready c = wide-ready c.args.terms.now c.args.bound.now c.args.first (c.args.body + 1) _ c.requires.below (c.deref.ensures.value ∙ c.in_ok-pairs.ensures)

pub returns-clause-adds : goal.returns-clause-adds
returns-clause-adds c =
    c.in_ok-made.ensures.adds (ids_below (c.args.first + length c.args.bound.now)) (ids-more c.args.terms.now c.args.first (c.args.first + length c.args.bound.now) (omega arith) c.requires.below)
    (wide-pass c.args.bound.now c.args.first _ (c.deref.ensures.value ∙ c.in_ok-pairs.ensures))

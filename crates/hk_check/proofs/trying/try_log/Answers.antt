use Rattle.hk_check.proofs.Judgements.{judged}
use Rattle.hk_check.proofs.trying.try_log.Goals as goal

pub returns-in-None : goal.returns-in-None
returns-in-None c =
    let now = c.add_all-added.new.question in
    judged c.args.question now c.args.instances.now c.into_parts-kept.result.0 c.into_parts-kept.result.1 c.args.log.now c.in_ok-place.field-0 c.judge.result
    c.add_all-added.ensures.goal c.in-None.is c.in_ok-place.ensures.added c.into_parts-kept.ensures.instances c.into_parts-kept.ensures.exact c.judge.ensures

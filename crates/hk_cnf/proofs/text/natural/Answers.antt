use Rattle.std.proofs.Common.{◌∙◌}
use Rattle.hk_cnf.proofs.Splits.{natural-refused, natural-more}
use Rattle.hk_cnf.proofs.text.natural.Goals as goal

pub returns-in_err-value : goal.returns-in_err-value
returns-in_err-value c =
    c.from_residual.ensures ∙ natural-refused c.args.most c.args.word.now c.loop-byte.byte-index c.loop-byte.value c.loop-byte-test.true c.loop-byte.invariant.1 c.in_err-value.ensures

pub loop-byte-preserved : goal.loop-byte-preserved
loop-byte-preserved c =
    let step = natural-more c.args.most c.args.word.now c.loop-byte.byte-index c.loop-byte.value c.in_ok-value.value c.loop-byte-test.true c.loop-byte.invariant.0 c.loop-byte.invariant.1 c.in_ok-value.ensures.0 c.in_ok-value.ensures.1 in
    (step.0, step.1, c.in_ok-value.ensures.2)

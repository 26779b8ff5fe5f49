use Rattle.std.proofs.Common.{◌∙◌}
use Rattle.hk_verify.proofs.NumberWords.{number_more}
use Rattle.hk_verify.proofs.words.numbers_of.Goals as goal

pub loop-word-preserved : goal.loop-word-preserved
loop-word-preserved c = λ arguments spelled small.
    c.in_ok-push.ensures.items
    ∙ number_more c.args.words.now c.loop-word.word-index c.word-item.result c.as_str.result.now c.value_of.result c.loop-word.numbers.items arguments c.loop-word-test.true c.word-item.is c.as_str.ensures.value
    c.value_of.ensures spelled small (c.loop-word.invariant arguments spelled small)

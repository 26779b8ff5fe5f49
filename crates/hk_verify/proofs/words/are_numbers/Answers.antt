use Rattle.std.proofs.Common.{not, ap, ◌∙◌}
use Rattle.hk_verify.proofs.NumberWords.{no_words, one_more, all_words, not_all}
use Rattle.hk_verify.proofs.words.are_numbers.Goals as goal

pub loop-word-init : goal.loop-word-init
loop-word-init c = no_words

pub returns-then-is_none-clause-none : goal.returns-then-is_none-clause-none
returns-then-is_none-clause-none c = λ e. not_all c.args.words.now c.loop-word.word-index c.word-item.result c.as_str.result.now c.number_of.result c.loop-word-test.true c.word-item.is c.as_str.ensures.value
    (c.is_none.ensures ∙ ap not c.if-is_none.true) c.number_of.ensures.none

pub loop-word-preserved : goal.loop-word-preserved
loop-word-preserved c = one_more c.args.words.now c.loop-word.word-index c.word-item.result c.as_str.result.now c.number_of.result c.loop-word-test.true c.word-item.is c.as_str.ensures.value
    (c.is_none.ensures ∙ ap not c.if-is_none.false) c.number_of.ensures.number c.number_of.ensures.small c.loop-word.invariant

pub returns-clause-numbers : goal.returns-clause-numbers
returns-clause-numbers c = λ e. all_words c.args.words.now c.loop-word.word-index c.loop-word-test.false c.loop-word.invariant

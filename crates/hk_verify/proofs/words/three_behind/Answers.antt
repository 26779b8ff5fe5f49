use Rattle.std.proofs.Common.{◌≤◌, length, sym, ◌∙◌, arith}
use Rattle.std.proofs.lemmas.Slice.Eq.{bytes_eq-Decides}
use Rattle.hk_verify.proofs.Forms.{four_words, first_word}
use Rattle.hk_verify.proofs.words.three_behind.Goals as goal

pub returns-then-eq-clause-form : goal.returns-then-eq-clause-form
returns-then-eq-clause-form c =
    four_words c.args.words.now c.word-item.result c.first-item.result c.second-item.result c.third-item.result _ _ _ _ c.in-len4.len_at_least c.in-len4.len_below
    c.word-item.is c.first-item.is c.second-item.is c.third-item.is
    (sym c.as_str.ensures.value ∙ (bytes_eq-Decides _ _).0 (sym c.eq.ensures ∙ c.if-eq.true))
    c.as_str-then-eq.ensures.value c.as_str-then-eq-2.ensures.value c.as_str-then-eq-3.ensures.value

pub returns-else-eq-clause-no_form : goal.returns-else-eq-clause-no_form
returns-else-eq-clause-no_form c = λ first second third same.
    let long : 1 ≤ length c.args.words.now = omega (arith, c.in-len4.len_at_least) in
    let yes = (bytes_eq-Decides c.as_str.result.now c.args.command.now).1
    (c.as_str.ensures.value ∙ first_word c.args.words.now c.word-item.result _ _ long c.word-item.is same) in
    let no = sym c.eq.ensures ∙ c.if-eq.false in
    cc

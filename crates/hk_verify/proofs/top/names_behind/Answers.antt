use Rattle.std.proofs.Common.{sym, ◌∙◌}
use Rattle.std.proofs.lemmas.Slice.Eq.{bytes_eq-Decides}
use Rattle.hk_verify.proofs.Forms.{three_words, other_command}
use Rattle.hk_verify.proofs.top.names_behind.Goals as goal

pub returns-then-eq-clause-form : goal.returns-then-eq-clause-form
returns-then-eq-clause-form c =
    three_words c.args.words.now c.word-item.result c.first-item.result c.second-item.result _ _ _ c.in-len3.len_at_least c.in-len3.len_below
    c.word-item.is c.first-item.is c.second-item.is
    (sym c.as_str.ensures.value ∙ (bytes_eq-Decides _ _).0 (sym c.eq.ensures ∙ c.if-eq.true))
    c.as_str-then-eq.ensures.value c.as_str-then-eq-2.ensures.value

pub returns-else-eq-clause-no_form : goal.returns-else-eq-clause-no_form
returns-else-eq-clause-no_form c = λ first second same.
    let yes = (bytes_eq-Decides c.as_str.result.now c.args.command.now).1
    (c.as_str.ensures.value ∙ other_command c.args.words.now c.word-item.result _ first second c.in-len3.len_at_least c.word-item.is same) in
    let no = sym c.eq.ensures ∙ c.if-eq.false in
    cc

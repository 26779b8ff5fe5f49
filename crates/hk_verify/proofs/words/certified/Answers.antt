use Rattle.std.proofs.Common.{sym, ◌∙◌, subst}
use Rattle.std.proofs.lemmas.Bool.{not-false}
use Rattle.std.proofs.lemmas.Slice.Eq.{bytes_eq-Decides}
use Rattle.hk_verify.specs.Words.{AllowConflicts}
use Rattle.hk_verify.proofs.Forms.{asks_for, asked_front, asked_option, asked_long}
use Rattle.hk_verify.proofs.words.certified.Goals as goal

pub returns-in-Some-clause-form : goal.returns-in-Some-clause-form
returns-in-Some-clause-form c =
    asks_for c.args.options.now c.option-item.result c.cert-item.result c.in-Some.budget _ c.in-len2-up.len_at_least c.option-item.is c.cert-item.is
    (sym c.as_str.ensures.value ∙ (bytes_eq-Decides _ _).0 (not-false _ (sym c.ne.ensures ∙ c.if-ne.false))) c.as_str-in-Some.ensures.value c.in-Some.ensures.allowed

pub returns-in-None-clause-none : goal.returns-in-None-clause-none
returns-in-None-clause-none c = λ budget cert asked.
    c.in-None.ensures.none budget (subst (λ options. AllowConflicts options budget) (sym (asked_front c.args.options.now budget cert asked)) asked.allowed)

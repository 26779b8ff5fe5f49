use Rattle.std.proofs.Common.{sym, ◌∙◌}
use Rattle.std.proofs.lemmas.Bool.{not-false}
use Rattle.std.proofs.lemmas.Slice.Eq.{bytes_eq-Decides}
use Rattle.hk_verify.proofs.Forms.{certifying_words, not_certifying}
use Rattle.hk_verify.proofs.words.behind_certifying.Goals as goal

pub returns-in-Some-clause-form : goal.returns-in-Some-clause-form
returns-in-Some-clause-form c =
    certifying_words c.args.words.now c.command-item.result c.kernel-item.result c.spec-item.result _ _ _ c.in-Some.budget c.in-len3-up.len_at_least c.command-item.is c.kernel-item.is c.spec-item.is
    (sym c.as_str.ensures.value ∙ (bytes_eq-Decides _ _).0 (not-false _ (sym c.ne.ensures ∙ c.if-ne.false))) c.as_str-in-Some.ensures.value c.as_str-in-Some-2.ensures.value c.in-Some.ensures.form

pub returns-in-None-clause-none : goal.returns-in-None-clause-none
returns-in-None-clause-none c = λ kernel spec budget cert is.
    not_certifying c.args.words.now c.command-item.result c.kernel-item.result c.spec-item.result kernel spec budget cert c.in-len3-up.len_at_least c.command-item.is c.kernel-item.is c.spec-item.is
    c.in-None.ensures.none is

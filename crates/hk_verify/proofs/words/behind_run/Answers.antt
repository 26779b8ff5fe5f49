use Rattle.std.proofs.Common.{sym, ◌∙◌}
use Rattle.std.proofs.lemmas.Slice.Eq.{bytes_eq-Decides}
use Rattle.hk_verify.proofs.Forms.{words_behind}
use Rattle.hk_verify.proofs.words.behind_run.Goals as goal

pub returns-then-are_numbers-clause-form : goal.returns-then-are_numbers-clause-form
returns-then-are_numbers-clause-form c =
    words_behind c.args.words.now c.command-item.result c.kernel-item.result c.function-item.result _ _ _ c.in-len3-up.len_at_least c.command-item.is c.kernel-item.is c.function-item.is
    (sym c.as_str.ensures.value ∙ (bytes_eq-Decides _ _).0 (sym c.eq.ensures ∙ c.if-eq.true)) c.as_str-then-are_numbers.ensures.value c.as_str-then-are_numbers-2.ensures.value

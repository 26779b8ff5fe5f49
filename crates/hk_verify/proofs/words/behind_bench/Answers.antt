use Rattle.std.proofs.Common.{sym, ◌∙◌}
use Rattle.std.proofs.lemmas.Slice.Eq.{bytes_eq-Decides}
use Rattle.hk_verify.proofs.Forms.{bench_words}
use Rattle.hk_verify.proofs.words.behind_bench.Goals as goal

pub returns-then-eq-clause-form : goal.returns-then-eq-clause-form
returns-then-eq-clause-form c =
    bench_words c.args.words.now c.command-item.result c.number-item.result c.as_str-then-eq.result.now c.number_to.result c.in-len2.len_at_least c.in-len2.len_below c.command-item.is c.number-item.is
    (sym c.as_str.ensures.value ∙ (bytes_eq-Decides _ _).0 (sym c.eq.ensures ∙ c.if-eq.true)) c.as_str-then-eq.ensures.value
    c.number_to.ensures.number c.number_to.ensures.some c.number_to.ensures.most

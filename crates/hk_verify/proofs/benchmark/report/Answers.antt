use Rattle.std.proofs.Common.{sym, ◌∙◌}
use Rattle.hk_verify.proofs.Benched.{counted, uncounted}
use Rattle.hk_verify.proofs.benchmark.report.Goals as goal

pub returns-then-is_err-clause-counts : goal.returns-then-is_err-clause-counts
returns-then-is_err-clause-counts g c =
    uncounted _ c.cut.result _ _ c.count_kinds-counts.result c.put_counts.result (sym c.is_err.ensures.value ∙ c.if-is_err.true) c.deref.ensures.value c.count_kinds-counts.ensures c.cut.ensures.verdicts
    c.cut.ensures.fault c.cut.ensures.status c.put_counts.ensures.failed c.put_counts.ensures.cut

pub returns-clause-counts : goal.returns-clause-counts
returns-clause-counts g c =
    counted _ _ _ _ _ c.count_kinds-counts.result c.put_counts.result (sym c.is_err.ensures.value ∙ c.if-is_err.false) c.deref.ensures.value c.deref-2.ensures.value c.count_kinds-counts.ensures c.from_vec.ensures
    c.status_of.ensures c.put_counts.ensures.still c.put_counts.ensures.whole

use Rattle.hk_rows.proofs.Adding.{on_err, err_then}
use Rattle.hk_verify.proofs.Counts.{cut_at_handlers, cut_at_accept, cut_at_reject, cut_at_unknown, cut_at_memory}
use Rattle.hk_verify.proofs.benchmark.put_counts.Goals as goal

pub returns-in_err-put_count-clause-cut : goal.returns-in_err-put_count-clause-cut
returns-in_err-put_count-clause-cut g c = on_err _ _ (cut_at_handlers c.args.counts.now _ _ c.in_err-put_count.ensures.cut)

pub returns-in_err-put_count-2-clause-cut : goal.returns-in_err-put_count-2-clause-cut
returns-in_err-put_count-2-clause-cut g c = on_err _ _ (cut_at_accept c.args.counts.now _ _ _ c.in_ok-put_count.ensures.whole c.in_err-put_count-2.ensures.cut)

pub returns-in_err-put_count-3-clause-cut : goal.returns-in_err-put_count-3-clause-cut
returns-in_err-put_count-3-clause-cut g c =
    on_err _ _ (cut_at_reject c.args.counts.now _ _ _ _ c.in_ok-put_count.ensures.whole c.in_ok-put_count-2.ensures.whole c.in_err-put_count-3.ensures.cut)

pub returns-in_err-put_count-4-clause-cut : goal.returns-in_err-put_count-4-clause-cut
returns-in_err-put_count-4-clause-cut g c =
    on_err _ _ (cut_at_unknown c.args.counts.now _ _ _ _ _ c.in_ok-put_count.ensures.whole c.in_ok-put_count-2.ensures.whole c.in_ok-put_count-3.ensures.whole c.in_err-put_count-4.ensures.cut)

pub returns-clause-cut : goal.returns-clause-cut
returns-clause-cut g c =
    err_then _ _ c.put_count-5.result (cut_at_memory c.args.counts.now _ _ _ _ _ _ c.in_ok-put_count.ensures.whole c.in_ok-put_count-2.ensures.whole c.in_ok-put_count-3.ensures.whole
    c.in_ok-put_count-4.ensures.whole) c.put_count-5.ensures.cut

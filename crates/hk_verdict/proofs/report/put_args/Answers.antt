use Rattle.std.specs.List.{enumerate_from}
use Rattle.hk_verdict.specs.Report.{arg_text}
use Rattle.hk_rows.proofs.Adding.{on_err, shows_more, shows_all, pieces_cut}
use Rattle.hk_verdict.proofs.Listed.{arg_within, arg_at, args_end}
use Rattle.hk_verdict.proofs.report.put_args.Goals as goal

pub returns-in_err-put_arg-clause-cut : goal.returns-in_err-put_arg-clause-cut
returns-in_err-put_arg-clause-cut g c =
    let args = c.args.args.now in
    let put = c.in_err-put_arg.ensures in
    let failed = pieces_cut arg_text (enumerate_from 0 args) c.loop-place.place (0, 0) _ _ _ _ _ _ _ (arg_within args c.loop-place.place c.loop-place-test.true) (arg_at args c.loop-place.place c.loop-place-test.true)
    c.loop-place.invariant (record { cut = put.cut; failed = put.failed; later = put.later }) in
    on_err _ _ failed.cut

pub loop-place-preserved : goal.loop-place-preserved
loop-place-preserved g c =
    let args = c.args.args.now in
    let put = c.in_ok-put_arg.ensures in
    shows_more arg_text (enumerate_from 0 args) c.loop-place.place (0, 0) _ _ _ _ _ _ _ (arg_within args c.loop-place.place c.loop-place-test.true) (arg_at args c.loop-place.place c.loop-place-test.true)
    c.loop-place.invariant (record { whole = put.whole; still = put.still })

pub returns-clause-whole : goal.returns-clause-whole
returns-clause-whole g c =
    (shows_all arg_text (enumerate_from 0 c.args.args.now) c.loop-place.place _ _ _ _ (args_end c.args.args.now c.loop-place.place c.loop-place-test.false) c.loop-place.invariant).whole

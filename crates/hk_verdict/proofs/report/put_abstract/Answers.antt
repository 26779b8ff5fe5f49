use Rattle.hk_io.proofs.Prefixes.{prefix_append}
use Rattle.std.proofs.Common.{[]}
use Rattle.spec_tree.specs.View.{view_spec}
use Rattle.hk_verdict.specs.Entries.{entries_text}
use Rattle.hk_verdict.specs.Report.{args_text}
use Rattle.hk_rows.proofs.Adding.{on_err, err_behind}
use Rattle.hk_verdict.proofs.report.put_abstract.Goals as goal

pub returns-in_err-put_args-clause-cut : goal.returns-in_err-put_args-clause-cut
returns-in_err-put_args-clause-cut g c = on_err _ _ (prefix_append _ _ _ _ c.in_err-put_args.ensures.cut)

pub returns-clause-cut : goal.returns-clause-cut
returns-clause-cut g c =
    let shown = g.O.Sink.shown in
    err_behind c.put_entries.result (shown c.args.out.now) (shown c.put_args.new.out) (shown c.put_entries.new.out) (args_text c.args.args.now) (entries_text [] (view_spec c.args.spec.now) c.args.state.now)
    c.in_ok-put_args.ensures.whole c.put_entries.ensures.cut

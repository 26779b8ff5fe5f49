use Rattle.std.proofs.Common.{ℕ, List, Bor}
use Rattle.std.proofs.lemmas.Result.{err_from_is_err_and}
use Rattle.hk_cnf.specs.Text.{lines_of}
use Rattle.hk_lrat.specs.declared.log.LratLog.{LratLog}
use Rattle.hk_cert_log.proofs.Rowing.{extent-all, extent-few, extent-stopped}
use Rattle.hk_cert_log.proofs.rows.rows_due.Goals as goal

pub returns-in_err-log : goal.returns-in_err-log
returns-in_err-log c =
    let p = err_from_is_err_and c.from_residual.result c.from_residual.ensures.1 in
    rw (p.1, p.2)
    (extent-stopped {A = LratLog × Bor (List ℕ)} (λ x. (x.0, lines_of x.1.now)) c.in_err-log.field-0.0 c.args.due c.args.text.now c.split_at.result.0.now c.extent-rows.result.0 c.extent-rows.result.1 c.extent-rows.ensures c.split_at.ensures.front c.in_err-log.ensures)

pub returns-then-rows-due : goal.returns-then-rows-due
returns-then-rows-due c =
    extent-few c.args.due c.args.text.now c.split_at.result.0.now c.extent-rows.result.0 c.extent-rows.result.1 c.in_ok-log.log c.extent-rows.ensures c.if-rows-due.true c.split_at.ensures.front c.in_ok-log.ensures

pub returns : goal.returns
returns c =
    extent-all c.args.due c.args.text.now c.split_at.result.0.now c.split_at.result.1.now c.extent-rows.result.0 c.extent-rows.result.1 c.in_ok-log.log c.extent-rows.ensures c.if-rows-due.false c.split_at.ensures.front c.split_at.ensures.back c.in_ok-log.ensures

use Rattle.std.proofs.Common.{List, []}
use Rattle.std.proofs.lemmas.Result.{err_from_is_err_and}
use Rattle.hk_cnf.specs.Text.{lines_of}
use Rattle.hk_lrat.specs.declared.log.LratRow.{LratRow}
use Rattle.hk_proof.specs.declared.Proof.{Proof}
use Rattle.hk_cert.specs.Reading.{log_from}
use Rattle.hk_cert_read.proofs.Exits.{exit_refuted}
use Rattle.hk_cert_read.proofs.proving.refuted_at.Goals as goal

pub returns-in_err-log : goal.returns-in_err-log
returns-in_err-log c =
    let p = err_from_is_err_and c.from_residual.result c.from_residual.ensures.1 in
    rw (p.1, p.2)
    (exit_refuted (λ (l : List LratRow). l) (λ (x : Proof). x) c.in_err-log.field-0.0 c.args.instances (log_from c.args.count [] c.args.at.line (lines_of c.args.at.text.now)) c.in_err-log.ensures)

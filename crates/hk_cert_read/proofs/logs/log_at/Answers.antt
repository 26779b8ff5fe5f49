use Rattle.std.proofs.Common.{rules, ◌≡◌, ◌+◌, List, [], Err, sym, subst}
use Rattle.hk_cnf.specs.Text.{lines_of}
use Rattle.hk_lrat.specs.declared.log.LratRow.{LratRow}
use Rattle.hk_cert_lines.specs.declared.reason.CertReason.TheVariants.{Q1}
use Rattle.hk_cert_log.specs.Rows.{rows_from}
use Rattle.hk_cert.specs.Steps.{fault, Gives}
use Rattle.hk_cert.specs.Reading.{log_from}
use Rattle.hk_cert_read.proofs.Logging.{log_failed}
use Rattle.hk_cert_read.proofs.logs.log_at.Goals as goal

pub returns-in-Some-line_behind : goal.returns-in-Some-line_behind
returns-in-Some-line_behind c =
    let at = c.args.at in
    let rows = c.in-Err-NoRow.rows in
    let next = c.in-Some-line_behind.line in
    let read : rows_from c.args.count [] 0 (lines_of at.text.now) ≡ Err rows = search rules in
    let line : next ≡ at.line + rows = search rules in
    let failed : log_from c.args.count [] at.line (lines_of at.text.now) ≡ Err (fault next Q1) = log_failed c.args.count at.line next rows (lines_of at.text.now) line read in
    subst (λ stop. Gives (λ (log : List LratRow). log) (Err stop) (log_from c.args.count [] at.line (lines_of at.text.now))) (sym c.refused.ensures) failed

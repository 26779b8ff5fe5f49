use Rattle.hk_lrat.proofs.Words.{found-line, whole-line}
use Rattle.hk_cert_log.proofs.extent.line_len.Goals as goal

pub returns-in-Some : goal.returns-in-Some
returns-in-Some c = found-line c.args.text.now c.in-Some.length c.in-Some.ensures

pub returns-in-None : goal.returns-in-None
returns-in-None c = whole-line c.args.text.now c.in-None.ensures

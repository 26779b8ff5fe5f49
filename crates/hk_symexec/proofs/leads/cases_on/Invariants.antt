use Rattle.std.proofs.Common.{drop}
use Rattle.hk_symexec.proofs.Leading.{Casing}
use Rattle.hk_symexec.proofs.leads.cases_on.Given as goal

abbrev pub invariant-loop-case : goal.invariant-loop-case
invariant-loop-case g l = Casing l.fn.setting.program.now l.fn.setting.function l.fn.edges.from l.fn.t l.t l.fn.memory l.fn.x l.state l.fn.bits l.fn.edges.cases.now (drop l.case-index l.fn.edges.cases.now) l.fn.edges.default

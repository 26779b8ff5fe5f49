use Rattle.std.proofs.Common.{drop}
use Rattle.hk_symexec.proofs.PhiLaws.{Staging}
use Rattle.hk_symexec.proofs.phis.staged.Given as goal

abbrev pub invariant-loop-step : goal.invariant-loop-step
invariant-loop-step g l = Staging l.fn.t l.t l.fn.file l.fn.memory l.fn.from l.fn.steps (drop l.step-index l.steps) l.found.items

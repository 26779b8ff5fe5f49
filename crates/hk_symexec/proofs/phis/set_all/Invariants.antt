use Rattle.std.proofs.Common.{take}
use Rattle.hk_symexec.proofs.PhiLaws.{Setting}
use Rattle.hk_symexec.proofs.phis.set_all.Given as goal

abbrev pub invariant-loop-phi : goal.invariant-loop-phi
invariant-loop-phi l = Setting l.fn.t l.t l.fn.condition l.fn.file l.file (take l.phi-index l.phis)

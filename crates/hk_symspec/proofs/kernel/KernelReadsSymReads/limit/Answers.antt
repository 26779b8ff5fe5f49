use Rattle.std.proofs.Common.{refl}
use Rattle.hk_symspec.proofs.kernel.KernelReadsSymReads.limit.Goals as goal

pub returns : goal.returns
returns g c = refl

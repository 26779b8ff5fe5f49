use Rattle.std.proofs.Common.{refl}
use Rattle.hk_symspec.proofs.reads.StateReadsSymReads.limit.Goals as goal

pub returns : goal.returns
returns g c = refl

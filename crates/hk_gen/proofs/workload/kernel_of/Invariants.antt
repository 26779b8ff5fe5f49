use Rattle.std.proofs.Common.{◌≡◌, ◌++◌}
use Rattle.hk_gen.specs.Workload.{kernel_head, kernel_handler, handlers}
use Rattle.hk_gen.proofs.workload.kernel_of.Given as goal

abbrev pub invariant-loop-k : goal.invariant-loop-k
invariant-loop-k l = l.text.items ≡ kernel_head l.n ++ handlers (kernel_handler l.n) l.k

use Rattle.hk_gen.specs.Workload.{kernel_head, kernel_handler}
use Rattle.hk_gen.proofs.Handlers.{one_more}
use Rattle.hk_gen.proofs.workload.kernel_of.Goals as goal

pub loop-k-preserved : goal.loop-k-preserved
loop-k-preserved c = one_more (kernel_handler c.args.n) c.loop-k.k (kernel_head c.args.n) _ _ c.loop-k.invariant c.in_ok-put_kernel_handler.ensures

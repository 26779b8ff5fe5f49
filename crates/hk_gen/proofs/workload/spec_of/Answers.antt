use Rattle.hk_gen.specs.Workload.{spec_head, spec_handler}
use Rattle.hk_gen.proofs.Handlers.{one_more}
use Rattle.hk_gen.proofs.workload.spec_of.Goals as goal

pub loop-k-preserved : goal.loop-k-preserved
loop-k-preserved c = one_more (spec_handler c.args.n) c.loop-k.k (spec_head c.args.n) _ _ c.loop-k.invariant c.in_ok-put_spec_handler.ensures

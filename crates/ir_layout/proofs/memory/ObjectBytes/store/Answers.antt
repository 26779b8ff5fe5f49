use Rattle.ir_layout.proofs.ByteSteps.{store_more}
use Rattle.ir_layout.proofs.memory.ObjectBytes.store.Goals as goal

pub loop-at-preserved : goal.loop-at-preserved
loop-at-preserved c =
    store_more c.args.bytes c.loop-at.at c.args.offset c.loop-at.rest c.loop-at.self-inside.items.items _ c.loop-at-test.true c.loop-at.invariant

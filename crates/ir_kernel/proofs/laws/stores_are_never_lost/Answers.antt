use Rattle.ir_kernel.proofs.StoreTypes.{slot_holds, memory_written}
use Rattle.ir_kernel.proofs.laws.stores_are_never_lost.Goals as goal

pub returns-clause-slot : goal.returns-clause-slot
returns-clause-slot c = slot_holds

pub returns-clause-memory : goal.returns-clause-memory
returns-clause-memory c = memory_written

use Rattle.hk_gen.proofs.workload.put_kernel_handler.Goals as goal

pub returns : goal.returns
returns c = rw c.operation_of.ensures at (rw c.predicate_of.ensures at c.put_lines.ensures)

use Rattle.ir_ast.specs.ProgramView.{view_module}
use Rattle.ir_typed.proofs.ByteMemories.{bytes_from}
use Rattle.ir_spelled.proofs.Passed.{never}
use Rattle.ir_spelled.proofs.running.run_from_start.Goals as goal

pub with_end-requires : goal.with_end-requires
with_end-requires c =
    let m = view_module c.args.kernel.now in
    never m c.args.name.now c.args.arguments.now c.args.place c.in_ok-memory.memory c.in_ok-end.end
    (record { checked = c.checked-checked.ensures.facts; distinct = c.checked-checked.ensures.distinct; spelled = c.requires.spelled }) c.requires.taken c.requires.passed
    (bytes_from c.in_ok-memory.memory c.hold_bytes.ensures) c.in_ok-end.ensures

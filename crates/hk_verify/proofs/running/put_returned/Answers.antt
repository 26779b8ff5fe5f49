use Rattle.ir_ast.specs.ProgramView.{view_module}
use Rattle.hk_rows.specs.Rows.{memory_text}
use Rattle.hk_rows.proofs.Adding.{err_behind}
use Rattle.hk_verify.specs.Runs.{returned_line}
use Rattle.hk_verify.proofs.running.put_returned.Goals as goal

pub returns-clause-cut : goal.returns-clause-cut
returns-clause-cut g c =
    let shown = g.O.Sink.shown in
    err_behind c.put_state.result (shown c.args.out.now) (shown c.put_value.new.out) (shown c.put_state.new.out) (returned_line c.args.value) (memory_text (view_module c.args.kernel.now).globals c.args.memory.now)
    c.in_ok-put_value.ensures.whole c.put_state.ensures.cut

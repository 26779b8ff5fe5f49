use Rattle.hk_symexec.specs.Tracks.{order_in}
use Rattle.hk_symexec.proofs.Ending.{fits_kernel, runs_tell}
use Rattle.ir_ast.specs.ProgramView.{view_module}
use Rattle.hk_symexec.proofs.whole.execute.Goals as goal

pub run_from-requires-clause-fits : goal.run_from-requires-clause-fits
run_from-requires-clause-fits g c =
    fits_kernel (view_module c.args.kernel.now) c.args.layout.now c.program-program.result.now c.args.start.now c.in_ok-memory.memory c.requires.layout c.program-program.ensures c.requires.memory c.in_ok-memory.ensures

pub returns-clause-runs : goal.returns-clause-runs
returns-clause-runs g c =
    runs_tell c.args.kernel.now c.checked-checked.result.now c.program-program.result.now (order_in c.in_ok-orders.orders) c.args.function c.depth_of-depth.result c.saturating_sub.result c.args.arguments.now
    c.args.t.now c.argument_file.new.t c.run_from.new.t c.args.start.now c.in_ok-memory.memory c.run_from.new.memory c.in_ok-file.file c.in_ok-after.after c.at-code.result.now
    c.checked-checked.ensures.checked c.checked-checked.ensures.facts c.checked-checked.ensures.distinct c.program-program.ensures c.in_ok-orders.ensures c.requires.call c.depth_of-depth.ensures c.at-code.ensures c.saturating_sub.ensures
    c.in_ok-file.ensures.frame c.in_ok-memory.ensures c.requires.over c.in_ok-file.ensures.meaning c.in_ok-after.ensures.rests

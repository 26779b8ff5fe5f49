use Rattle.std.proofs.Common.{sym}
use Rattle.ir_ast.specs.ProgramView.{view_module}
use Rattle.ir_kernel.proofs.CallLaws.{made_of, is_run, is_finished}
use Rattle.ir_kernel.proofs.calling.watch.Goals as goal

pub returns-clause-run : goal.returns-clause-run
returns-clause-run c =
    let made = made_of c.args.kernel.now c.checked.result.now c.args.function c.args.arguments.now c.args.memory.now c.program.result.now c.program-2.result.now c.as_slice.result.now c.index-as_slice-function.result
    c.expanded-steps.result c.in_ok-start.start c.checked.ensures.checked c.program.ensures c.program-2.ensures c.as_slice.ensures (sym c.index-as_slice-function.is) c.expanded-steps.ensures c.in_ok-start.ensures in
    is_run (view_module c.args.kernel.now) c.args.function c.args.arguments.now c.args.memory.now c.program-2.result.now c.expanded-steps.result c.in_ok-start.start made c.run.result c.requires c.run.ensures

pub returns-clause-finished : goal.returns-clause-finished
returns-clause-finished c =
    let made = made_of c.args.kernel.now c.checked.result.now c.args.function c.args.arguments.now c.args.memory.now c.program.result.now c.program-2.result.now c.as_slice.result.now c.index-as_slice-function.result
    c.expanded-steps.result c.in_ok-start.start c.checked.ensures.checked c.program.ensures c.program-2.ensures c.as_slice.ensures (sym c.index-as_slice-function.is) c.expanded-steps.ensures c.in_ok-start.ensures in
    is_finished (view_module c.args.kernel.now) c.args.function c.args.arguments.now c.args.memory.now c.program-2.result.now c.expanded-steps.result c.in_ok-start.start made c.run.result
    c.checked.ensures.facts c.checked.ensures.distinct c.checked.ensures.ordered c.requires c.run.ensures

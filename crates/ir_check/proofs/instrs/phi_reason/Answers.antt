use Rattle.ir_ast.specs.View.{view_type}
use Rattle.ir_ast.specs.ProgramView.{view_module}
use Rattle.ir_check.specs.Used.{function_in}
use Rattle.ir_check.proofs.InstrLaws.{phi_told}
use Rattle.ir_check.proofs.instrs.phi_reason.Goals as goal

pub returns-clause-arms : goal.returns-clause-arms
returns-clause-arms c = λ b there once known.
    phi_told (view_module c.args.context.now.kernel.now) (function_in c.args.context.now.uses.now) (view_module c.args.context.now.kernel.now).types (view_type c.args.over.now) c.args.arms.now.items.items c.as_slice-arms.result.now
    c.blocks-index.result.now c.args.block b c.in_ok-meet.meet c.arms_reason.result c.as_slice-arms.ensures.value c.blocks-index.ensures c.len.ensures.distinct there once known
    (λ is place arms. c.in_ok-meet.ensures.meet (function_in c.args.context.now.uses.now) b c.args.block is place c.requires.sources arms) c.arms_reason.ensures

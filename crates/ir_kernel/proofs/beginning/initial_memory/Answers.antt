use Rattle.ir_ast.specs.ProgramView.{view_module}
use Rattle.ir_kernel.proofs.InitLaws.{inits_fit, on_ok}
use Rattle.ir_kernel.proofs.beginning.initial_memory.Goals as goal

pub returns : goal.returns
returns c = on_ok _ _ c.initial.result (λ memory h. h (view_module c.args.kernel.now) c.layout.ensures (inits_fit (view_module c.args.kernel.now) c.checked-checked.ensures.facts)) c.initial.ensures.initial

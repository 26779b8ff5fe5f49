use Rattle.std.proofs.Common.{◌∙◌, ap}
use Rattle.ir_ast.specs.ProgramView.{view_module}
use Rattle.ir_ast.specs.declared.module.Module.{Module}
use Rattle.ir_resolve.specs.Resolved.{program_of}
use Rattle.ir_kernel.proofs.kernel.with_code.Goals as goal

pub invariant_of-result : goal.invariant_of-result
invariant_of-result c = record {
  distinct = c.look_orders_up.ensures.distinct;
  ordered = c.look_orders_up.ensures.ordered;
  layout_is = c.requires;
  code_is = c.in_ok-program.ensures ∙ ap (λ (m : Module). program_of (view_module m)) c.module.ensures.kernel;
}

use Rattle.std.proofs.Common.{◌≡◌, subst}
use Rattle.ir_ast.specs.declared.module.Module.{Module}
use Rattle.ir_ast.specs.ProgramView.{view_module}
use Rattle.ir_resolve.specs.Resolved.{program_of}
use Rattle.ir_kernel.proofs.kernel.Kernel.program.Goals as goal

pub returns : goal.returns
returns c = subst (λ (m : Module). c.self.inside.program ≡ program_of (view_module m)) c.self.view_is c.self.invariant.code_is

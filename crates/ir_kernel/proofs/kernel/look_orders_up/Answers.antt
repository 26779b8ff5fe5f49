use Rattle.std.proofs.Common.{sym, subst}
use Rattle.std.specs.Prelude.{bytes_eq}
use Rattle.std.specs.List.{IsDistinct}
use Rattle.ir_ast.specs.ProgramView.{view_function}
use Rattle.ir_ast.specs.declared.module.Module.{Module}
use Rattle.ir_ast.specs.Table.{names_of}
use Rattle.ir_type.proofs.Views.{names_viewed}
use Rattle.ir_kernel.proofs.kernel.look_orders_up.Goals as goal

pub returns-clause-distinct : goal.returns-clause-distinct
returns-clause-distinct c =
    subst (IsDistinct bytes_eq) (sym (names_viewed view_function c.args.checked.now.functions))
    (subst (λ (m : Module). IsDistinct bytes_eq (names_of m.functions)) c.module.ensures.kernel c.len-place-end.ensures.distinct)

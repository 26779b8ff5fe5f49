use Rattle.std.specs.Option.{option_map}
use Rattle.ir_ast.specs.ProgramView.{view_function, view_block}
use Rattle.ir_read.proofs.Begun.{begun_err}
use Rattle.ir_read.proofs.head.begin_with.Goals as goal

pub returns-in-Err : goal.returns-in-Err
returns-in-Err c = begun_err c.in-Err.stop _ (view_function c.args.function) (option_map view_block c.args.block) (rw c.deref.ensures.value at c.in-Err.ensures)

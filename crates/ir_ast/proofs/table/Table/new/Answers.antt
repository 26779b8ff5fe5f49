use Rattle.std.proofs.Common.{rules}
use Rattle.ir_ast.proofs.Placing.{nothing_placed}
use Rattle.ir_ast.proofs.table.Table.new.Goals as goal

pub invariant_of-result : goal.invariant_of-result
invariant_of-result g c = search (rules, nothing_placed c.new.result c.new.ensures.empty)

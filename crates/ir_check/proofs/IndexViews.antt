-- Lists of indices, seen as plain data.
use Rattle.std.proofs.Common.{◌≡◌, rules}
use Rattle.ir_ast.specs.View.{view_indices, view_index_list}
use Rattle.ir_ast.specs.declared.operand.IndexList.{IndexList}
use Rattle.ir_ast.specs.declared.operand.Operand.TheFolds.{fold_out-IndexList, fold-roll-IndexList}

pub indices_are : (l : IndexList) → view_index_list l ≡ view_indices l.items.items
indices_are l = search (rules, fold_out-IndexList, fold-roll-IndexList)

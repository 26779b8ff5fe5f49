-- Lists of trees, seen as plain data.
use Rattle.std.proofs.Common.{◌≡◌, rules, List, [], ◌∷◌, map, refl, ap}
use Rattle.ir_ast.specs.Plain.{Ty}
use Rattle.ir_ast.specs.View.{view_type, view_indices, view_index_list, view_inits, view_init_list}
use Rattle.ir_ast.specs.declared.types.IrType.{IrType}
use Rattle.ir_ast.specs.declared.operand.IndexList.{IndexList}
use Rattle.ir_ast.specs.declared.operand.Operand.TheFolds.{fold_out-IndexList}
use Rattle.ir_ast.specs.declared.global.InitList.{InitList}
use Rattle.ir_ast.specs.declared.global.Init.TheFolds.{fold_out-InitList}

pub indices_are : (l : IndexList) → view_index_list l ≡ view_indices l.items.items
indices_are l = search (rules, fold_out-IndexList)

pub inits_are : (l : InitList) → view_init_list l ≡ view_inits l.items.items
inits_are l = search (rules, fold_out-InitList)

-- the types of pairs
pub firsts : {B : Type 0} (xs : List (IrType × B)) → map {A = Ty × B} (λ p. p.0) (map (λ p. (view_type p.0, p.1)) xs) ≡ map (λ p. view_type p.0) xs
firsts [] = refl
firsts (x ∷ xs) = ap (λ ts. view_type x.0 ∷ ts) (firsts xs)

-- Lists of raw trees.
use Rattle.std.proofs.Common.{◌≡◌, List, [], ◌∷◌, map, refl, ap, sym, ◌∙◌, rules}
use Rattle.spec_ast.specs.Raw.{Tree}
use Rattle.spec_ast.specs.Depth.{tree_list}
use Rattle.spec_ast.specs.View.{trees_of, view_expr, view_exprs, view_expr_list}
use Rattle.spec_ast.specs.declared.raw.RawExprs.{RawExprs, out-RawExprs}
use Rattle.spec_ast.specs.declared.raw.RawExpr.TheFolds.{fold_out-RawExprs}

listed : (es : List Tree) → tree_list (trees_of es) ≡ es
listed [] = refl
listed (e ∷ es) = ap (λ xs. e ∷ xs) (listed es)

list_is : (l : RawExprs) → view_expr_list l ≡ view_exprs (out-RawExprs l).items.items
list_is l = search (rules, fold_out-RawExprs)

pub trees_listed : (l : RawExprs) → map view_expr (out-RawExprs l).items.items ≡ tree_list (view_expr_list l)
trees_listed l = sym (ap tree_list (list_is l) ∙ listed (map view_expr (out-RawExprs l).items.items))

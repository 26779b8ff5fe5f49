-- Tables and lists of types, seen as plain data.
use Rattle.std.proofs.Common.{◌≡◌, ℕ, List, [], ◌∷◌, refl, ap, rules}
use Rattle.std.specs.Prelude.{position, bytes_eq}
use Rattle.ir_ast.specs.Table.{names_of, place_of}
use Rattle.ir_ast.specs.View.{view_types, view_type_list}
use Rattle.ir_ast.specs.ProgramView.{view_entries}
use Rattle.ir_ast.specs.declared.types.TypeList.{TypeList}
use Rattle.ir_ast.specs.declared.types.IrType.TheFolds.{fold_out-TypeList, fold-roll-TypeList}

pub list_is : (l : TypeList) → view_type_list l ≡ view_types l.items.items
list_is l = search (rules, fold_out-TypeList, fold-roll-TypeList)

pub names_viewed : {E V : Type 0} (view : E → V) (entries : List (List ℕ × E)) → names_of (view_entries view entries) ≡ names_of entries
names_viewed view [] = refl
names_viewed view (e ∷ entries) = ap (λ xs. e.0 ∷ xs) (names_viewed view entries)

pub place_viewed : {E V : Type 0} (view : E → V) (entries : List (List ℕ × E)) (x : List ℕ) → place_of x (view_entries view entries) ≡ place_of x entries
place_viewed view entries x = ap (position (bytes_eq x)) (names_viewed view entries)

-- Two lists of types compared one by one.
use Rattle.std.proofs.Common.{◌≡◌, ℕ, suc, Bool, true, false, ◌&&◌, List, [], ◌∷◌, length, refl, sym, ◌∙◌, ap, arith, rules}
use Rattle.ir_ast.specs.View.{view_type, view_types, view_type_list}
use Rattle.ir_ast.specs.declared.types.TypeList.{TypeList}
use Rattle.ir_ast.specs.declared.types.IrType.{IrType}
use Rattle.ir_ast.specs.declared.types.IrType.TheFolds.{fold_out-TypeList}
use Rattle.ir_typing.specs.Same.{same_type, same_types}

and_false : (b : Bool) → (b && false) ≡ false
and_false true = refl
and_false false = refl

suc_same : (m n : ℕ) → suc m ≡ suc n → m ≡ n
suc_same m n e = omega (arith, e)

-- lists of two lengths are not the same
pub other_length : (ts us : List IrType) → (length ts ≡ length us → ⊥) → false ≡ same_types (view_types ts) (view_types us)
other_length [] [] differ = absurd (differ refl)
other_length [] (u ∷ us) differ = refl
other_length (t ∷ ts) [] differ = refl
other_length (t ∷ ts) (u ∷ us) differ =
    let rest = other_length ts us (λ e. differ (ap suc e)) in
    sym (ap (λ b. same_type (view_type t) (view_type u) && b) (sym rest) ∙ and_false (same_type (view_type t) (view_type u)))

pub list_is : (l : TypeList) → view_type_list l ≡ view_types l.items.items
list_is l = search (rules, fold_out-TypeList)

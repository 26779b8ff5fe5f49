-- The steps of a `getelementptr`, one behind another.
use Rattle.std.proofs.Common.{◌≡◌, ◌-◌, ◌≤◌, Bool, Some, List, [], ◌∷◌, ◌++◌, length, take, drop, refl, sym, ◌∙◌, ap, arith}
use Rattle.std.proofs.lemmas.List.{append_assoc, take_all}
use Rattle.std.specs.Prelude.{slice_index_or}
use Rattle.ir_ast.specs.declared.operand.Flags.{Flags}
use Rattle.ir_ast.specs.Plain.{Ty}
use Rattle.ir_ast.specs.Program.{FunctionView, ModuleView}
use Rattle.ir_ast.specs.View.{view_type, view_operand, view_indices, view_index_list}
use Rattle.ir_ast.specs.declared.types.IrType.{IrType}
use Rattle.ir_ast.specs.declared.operand.Operand.{Operand}
use Rattle.ir_ast.specs.declared.operand.IndexList.{IndexList}
use Rattle.ir_typing.proofs.Typing.{list_is}
use Rattle.ir_layout.specs.Sizes.{size_of}
use Rattle.ir_layout.specs.Facts.{cut}
use Rattle.ir_code.specs.declared.input.Move.{Move}
use Rattle.ir_code.specs.declared.input.Move.TheVariants.{Begin}
use Rattle.ir_resolve.specs.Operands.{index_move, width_in, part_moves, moves_of}

pub no_moves : (m : ModuleView) (f : FunctionView) (flags : Flags) (t : Ty) (l : IndexList) → length l.items.items ≤ 0 → moves_of m f flags t (view_index_list l) ≡ Begin flags.inbounds ∷ []
no_moves m f flags t l few = ap (moves_of m f flags t) (list_is l) ∙ none l.items.items few
  where
    none : (is : List (IrType × Operand)) → length is ≤ 0 → moves_of m f flags t (view_indices is) ≡ Begin flags.inbounds ∷ []
    none [] few = refl
    none (i ∷ is) few = absurd (omega (arith, few))

pub all_moves : (m : ModuleView) (f : FunctionView) (flags : Flags) (t u : Ty) (l : IndexList) (is : List (IrType × Operand)) (i : IrType × Operand) (before a b c : List Move)
    → is ≡ l.items.items → 1 ≤ length is → i ≡ slice_index_or is 0 i → u ≡ t
    → a ≡ before ++ Begin flags.inbounds ∷ []
    → b ≡ a ++ index_move m f flags (cut (size_of t)) (width_in m (view_type i.0)) (view_operand i.1) ∷ []
    → c ≡ b ++ part_moves m f flags (Some u) (view_indices (take (length is - 1) (drop 1 is)))
    → c ≡ before ++ moves_of m f flags t (view_index_list l)
all_moves m f flags t u l [] i before a b c same some item known ea eb ec = absurd (omega (arith, some))
all_moves m f flags t u l (x ∷ xs) i before a b c same some item known ea eb ec =
    ec
    ∙ ap (λ ys. ys ++ part_moves m f flags (Some u) (view_indices (take (length (x ∷ xs) - 1) xs))) (eb ∙ ap (λ ys. ys ++ first i ∷ []) ea)
    ∙ append_assoc (before ++ Begin flags.inbounds ∷ []) (first i ∷ []) (part_moves m f flags (Some u) (view_indices (take (length (x ∷ xs) - 1) xs)))
    ∙ append_assoc before (Begin flags.inbounds ∷ []) (first i ∷ part_moves m f flags (Some u) (view_indices (take (length (x ∷ xs) - 1) xs)))
    ∙ ap (λ ys. before ++ Begin flags.inbounds ∷ first i ∷ part_moves m f flags (Some u) (view_indices ys)) (take_all (length (x ∷ xs) - 1) xs (omega arith))
    ∙ ap (λ v. before ++ Begin flags.inbounds ∷ first i ∷ part_moves m f flags (Some v) (view_indices xs)) known
    ∙ ap (λ j. before ++ Begin flags.inbounds ∷ first j ∷ part_moves m f flags (Some t) (view_indices xs)) item
    ∙ ap (λ js. before ++ moves_of m f flags t (view_indices js)) same
    ∙ ap (λ js. before ++ moves_of m f flags t js) (sym (list_is l))
  where
    first : IrType × Operand → Move
    first j = index_move m f flags (cut (size_of t)) (width_in m (view_type j.0)) (view_operand j.1)

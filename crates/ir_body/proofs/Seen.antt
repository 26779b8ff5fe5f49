-- The indices of the code as a list of pairs.
use Rattle.std.proofs.Common.{◌≡◌, ◌∙◌, ℕ, Option, Some, Result, Ok, Err, List, [], ◌∷◌, map, refl, ap}
use Rattle.ir_ast.specs.View.{view_indices}
use Rattle.ir_ast.specs.ProgramView.{view_typed}
use Rattle.ir_ast.specs.declared.types.IrType.{IrType}
use Rattle.ir_ast.specs.declared.operand.Operand.{Operand}
use Rattle.ir_lex.specs.Tok.{Tok}
use Rattle.ir_part.specs.declared.stop.PartStop.{PartStop}
use Rattle.ir_part.specs.Reader.{Gives}
use Rattle.ir_part.specs.Operands.{indices_from}
use Rattle.ir_part.proofs.OperandSteps as steps

pub indices_seen : (is : List (IrType × Operand)) → view_indices is ≡ indices_from (view_typed is)
indices_seen is = steps.indices_seen is

pub same_items : {A : Type 0} (xs : List A) → map (λ (x : A). x) xs ≡ xs
same_items [] = refl
same_items (x ∷ xs) = ap (λ ys. x ∷ ys) (same_items xs)

-- what is read as it stands
pub same_read : {R A : Type 0} (f : R → List A) (g : R → List Tok) (r : Result R PartStop) (read : Option (List A × List Tok)) → Gives (λ x. (map (λ (y : A). y) (f x), g x)) r read → Gives (λ x. (f x, g x)) r read
same_read f g (Ok a) read is = is ∙ ap (λ ys. Some (ys, g a)) (same_items (f a))
same_read f g (Err why) read is = is

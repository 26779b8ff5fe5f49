-- The operands of a phi and of a call, one by one.
use Rattle.std.proofs.Common.{◌≡◌, ℕ, Bool, ◌&&◌, List, [], ◌∷◌, map, refl, ap}
use Rattle.std.specs.List.{list_all}
use Rattle.ir_ast.specs.Plain.{Ty, Val}
use Rattle.ir_ast.specs.View.{view_type, view_operand}
use Rattle.ir_ast.specs.ProgramView.{view_arms, view_typed}
use Rattle.ir_ast.specs.declared.types.IrType.{IrType}
use Rattle.ir_ast.specs.declared.operand.Operand.{Operand}

pub phi_operands : (k : Ty → Val → Bool) (over : Ty) (arms : List (Operand × List ℕ))
    → list_all (λ (p : Ty × Val). k p.0 p.1) (map (λ (arm : Val × List ℕ). (over, arm.0)) (view_arms arms)) ≡ list_all (λ a. k over (view_operand a.0)) arms
phi_operands k over [] = refl
phi_operands k over (a ∷ arms) = ap (λ b. k over (view_operand a.0) && b) (phi_operands k over arms)

pub call_operands : (k : Ty → Val → Bool) (arguments : List (IrType × Operand)) → list_all (λ (p : Ty × Val). k p.0 p.1) (view_typed arguments) ≡ list_all (λ a. k (view_type a.0) (view_operand a.1)) arguments
call_operands k [] = refl
call_operands k (a ∷ arguments) = ap (λ b. k (view_type a.0) (view_operand a.1) && b) (call_operands k arguments)

-- One constant address form, and its indices.
use Rattle.std.proofs.Common.{◌≡◌, ℕ, zero, suc, ◌-◌, ◌<◌, false, None, List, [], ◌∷◌, refl, ap, arith}
use Rattle.ir_ast.specs.Plain.{index_and}
use Rattle.ir_ast.specs.View.{view_type, view_operand, view_indices}
use Rattle.ir_ast.specs.ProgramView.{view_typed}
use Rattle.ir_ast.specs.declared.types.IrType.{IrType}
use Rattle.ir_ast.specs.declared.operand.Operand.{Operand}
use Rattle.ir_lex.specs.Tok.{Tok}
use Rattle.ir_part.specs.Operands.{base_within, operand_within, indices_from}

pub base_none : (ts : List Tok) → base_within 0 ts ≡ None
unfolding base_within
base_none ts = refl

pub base_step : (n : ℕ) (ts : List Tok) → 0 < n → base_within n ts ≡ operand_within (n - 1) false ts
unfolding base_within
base_step zero ts h = absurd (omega (arith, h))
base_step (suc n) ts h = let e : suc n - 1 ≡ n = omega arith in rw e refl

pub ruleset base_steps = (base_none, base_step)

-- the indices of the code as a list of pairs
pub indices_seen : (is : List (IrType × Operand)) → view_indices is ≡ indices_from (view_typed is)
indices_seen [] = refl
indices_seen (i ∷ is) = ap (λ others. index_and (view_type i.0) (view_operand i.1) others) (indices_seen is)

-- How many numbers a range has.
use Rattle.std.proofs.Common.{◌≡◌, ℤ, List, length, map}
use Rattle.std.proofs.lemmas.List.{length-map}
use Rattle.ir_ast.specs.Plain.{Ty}
use Rattle.ir_ast.specs.View.{view_type}
use Rattle.ir_ast.specs.declared.types.IrType.{IrType}

pub counted : (bounds : List (IrType × ℤ)) → length (map {B = Ty × ℤ} (λ (n : IrType × ℤ). (view_type n.0, n.1)) bounds) ≡ length bounds
counted bounds = length-map bounds pair
  where
    pair : IrType × ℤ → Ty × ℤ
    pair n = (view_type n.0, n.1)

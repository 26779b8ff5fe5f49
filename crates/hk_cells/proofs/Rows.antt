-- Cell sizes of some types.
use Rattle.std.proofs.Common.{◌≡◌, [], ◌∷◌, refl}
use Rattle.ir_ast.specs.Plain.{integer, array, structure, no_types, type_and}
use Rattle.ir_layout.specs.Sizes.{size_of}
use Rattle.hk_cells.specs.Cells.{leaves, IsCellSize}
use Rattle.hk_cells.proofs.CellLaws.{cell_is}

-- 64 structs of two numbers of four bytes
pub descriptors : IsCellSize (size_of (array 64 (structure (type_and (integer 32) (type_and (integer 32) no_types))))) (leaves 0 (array 64 (structure (type_and (integer 32) (type_and (integer 32) no_types))))) 4
descriptors = cell_is (array 64 (structure (type_and (integer 32) (type_and (integer 32) no_types))))

-- a byte before a number of four bytes
pub byte_before : IsCellSize (size_of (structure (type_and (integer 8) (type_and (integer 32) no_types)))) (leaves 0 (structure (type_and (integer 8) (type_and (integer 32) no_types)))) 1
byte_before = cell_is (structure (type_and (integer 8) (type_and (integer 32) no_types)))

-- where each stands
pub its_leaves : leaves 0 (structure (type_and (integer 8) (type_and (integer 32) no_types))) ≡ (0, 1) ∷ (4, 4) ∷ []
its_leaves = refl

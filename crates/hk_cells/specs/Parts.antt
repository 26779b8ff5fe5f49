-- What is kept of objects: that they are constants, or how their bytes lie in cells.
use Rattle.std.specs.Prelude.{◌≡◌, ℕ, Bool, if◌then◌else◌, Option, Some, None, List, [], ◌∷◌}
use Rattle.ir_layout.specs.Bytes.{IsWidth, object_of}
use Rattle.ir_layout.specs.declared.object.Object.{Object}
use Rattle.hk_symmem.specs.Origins.{Origin, fixed, cells, object_from}
use Rattle.hk_cells.specs.declared.parts.Part.{Part}
use Rattle.hk_cells.specs.declared.parts.Part.TheVariants.{Constant, Cells}

-- the origins of bytes, where those of objects that are no constants lie in cells
abbrev pub divided : List Origin → List Part → List Origin
divided [] ps = []
divided (x ∷ xs) [] = []
divided (x ∷ xs) (Constant ∷ ps) = x ∷ divided xs ps
divided (x ∷ xs) (Cells size cell ∷ ps) = cells size cell ∷ divided xs ps

-- a part is kept of an object with bytes of this origin
abbrev pub IsPart : Origin → Part → Type 0
IsPart (fixed bytes) Constant = Unit {0}
IsPart (fixed bytes) (Cells size cell) = ⊥
IsPart (cells size c) Constant = ⊥
IsPart (cells size c) (Cells own cell) = (size ≡ own) × IsWidth c × IsWidth cell

abbrev pub AreParts : List Origin → List Part → Type 0
AreParts [] [] = Unit {0}
AreParts [] (p ∷ ps) = ⊥
AreParts (x ∷ xs) [] = ⊥
AreParts (x ∷ xs) (p ∷ ps) = IsPart x p × AreParts xs ps

-- the bytes of an object, by a memory that has those of the constants
abbrev pub part_bytes : List (List ℕ) → (ℕ → ℕ → ℕ) → ℕ → Part → List ℕ
part_bytes memory entry o Constant = object_of memory o
part_bytes memory entry o (Cells size cell) = object_from (cells size cell) (entry o)

-- what is kept of objects that are to have cells of these sizes
abbrev pub part_of : Bool → ℕ → ℕ → Part
part_of constant size cell = if constant then Constant else Cells size cell

abbrev pub parts_by : List Object → List ℕ → List Part
parts_by [] cs = []
parts_by (o ∷ os) [] = []
parts_by (o ∷ os) (c ∷ cs) = part_of o.constant o.size c ∷ parts_by os cs

-- the size of the cells of an object
abbrev pub cell_in : Option Origin → Option ℕ
cell_in (Some (cells size c)) = Some c
cell_in _ = None

abbrev pub part_cell : Part → Option ℕ
part_cell Constant = None
part_cell (Cells size cell) = Some cell

-- a size of cells
abbrev pub IsKept : Part → Type 0
IsKept Constant = Unit {0}
IsKept (Cells size cell) = IsWidth cell

-- What is kept of whole types by number: the size of their cells.
use Rattle.std.specs.Prelude.{◌≡◌, ℕ, ◌<◌, ◌≤◌, min, Some, List, length, slice_get}
use Rattle.ir_ast.specs.Plain.{Ty, Tys, no_types, type_and}
use Rattle.ir_whole.specs.Heads.{type_at}
use Rattle.hk_cells.specs.Cells.{cell_of}

-- the least of a number and the cells of some fields
abbrev pub least_from : ℕ → Tys → ℕ
least_from least no_types = least
least_from least (type_and t ts) = least_from (min least (cell_of t)) ts

-- these are kept of the first types
pub record AreCellsOf (types : List Ty) (kept : List ℕ) : Type 0 where
  pub some : 0 < length kept
  pub few : length kept ≤ length types
  pub each : (k : ℕ) → k < length kept → slice_get kept k ≡ Some (cell_of (type_at types k))

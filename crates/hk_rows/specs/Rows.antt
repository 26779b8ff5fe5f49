-- The rows of a machine state: sixteen bytes each, in hexadecimal.

use Rattle.std.specs.Prelude.{ℕ, ◌*◌, ◌==◌, if◌then◌else◌, List, [], ◌∷◌, length, take, drop, codes}
use Rattle.std.specs.List.{flat_map, list_all, enumerate_from, range_with_len}
use Rattle.std.specs.Fmt.{decimal}
use Rattle.std.specs.Int.{div_ceil}
use Rattle.ir_ast.specs.Program.{GlobalView}
use Rattle.ir_layout.specs.Bytes.{object_of}
use Rattle.hk_rows.specs.Texts.{line, name_text, hex_text}

-- The line of a row of a global: up to 16 bytes from an offset on.
abbrev pub row_line : List ℕ → ℕ → List ℕ → List ℕ
row_line name offset row = line (codes "  @" ∷ name_text name ∷ codes "+" ∷ decimal offset ∷ codes ": " ∷ hex_text row ∷ [])

-- A row of zeros alone is left out.
abbrev pub row_text : List ℕ → ℕ → List ℕ → List ℕ
row_text name offset row = if list_all (λ byte. byte == 0) row then [] else row_line name offset row

-- Row k of some bytes: those from 16 k on, at most 16.
abbrev pub row_of : List ℕ → ℕ → List ℕ
row_of bytes k = take 16 (drop (16 * k) bytes)

-- The rows of a global.
abbrev pub global_text : List ℕ → List ℕ → List ℕ
global_text name bytes = flat_map (λ k. row_text name (16 * k) (row_of bytes k)) (range_with_len 0 (div_ceil (length bytes) 16))

-- The rows of an object. A constant has its initial bytes, and no rows.
abbrev pub object_text : GlobalView → List ℕ → List ℕ
object_text global bytes = if global.constant then [] else global_text global.name bytes

-- The rows of a machine state: those of each global, in text order.
abbrev pub memory_text : List (List ℕ × GlobalView) → List (List ℕ) → List ℕ
memory_text globals memory = flat_map (λ e. object_text e.1.1 (object_of memory e.0)) (enumerate_from 0 globals)

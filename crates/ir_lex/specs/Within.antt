-- A piece of a text has at least one byte and goes no further than the text.
use Rattle.std.specs.Prelude.{ℕ, ◌<◌, ◌≤◌}
use Rattle.ir_lex.specs.declared.piece.Piece.{Piece}
use Rattle.ir_lex.specs.declared.piece.Piece.TheVariants.{Blank, LineEnd, Whole, Outside}
use Rattle.ir_lex.specs.declared.drops.Front.{Front}
use Rattle.ir_lex.specs.declared.drops.Front.TheVariants.{Kept, Dropped, Unclosed}

abbrev pub IsWithin : Piece → ℕ → Type 0
IsWithin (Blank n) limit = (0 < n) × (n ≤ limit)
IsWithin LineEnd limit = 1 ≤ limit
IsWithin (Whole kind n) limit = (0 < n) × (n ≤ limit)
IsWithin Outside limit = Unit {0}

-- what is dropped of a front has at least one token and is no longer than the front
abbrev pub IsFrontWithin : ℕ → Front → Type 0
IsFrontWithin limit Kept = Unit {0}
IsFrontWithin limit (Dropped n) = (0 < n) × (n ≤ limit)
IsFrontWithin limit Unclosed = Unit {0}

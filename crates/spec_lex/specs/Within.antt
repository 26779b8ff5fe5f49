-- That a piece has bytes and does not go over the end.
use Rattle.std.specs.Prelude.{ℕ, ◌<◌, ◌≤◌}
use Rattle.spec_lex.specs.declared.piece.Piece.{Piece}
use Rattle.spec_lex.specs.declared.piece.Piece.TheVariants.{Blank, Comment, Whole}

abbrev pub IsWithin : Piece → ℕ → Type 0
IsWithin Blank size = 1 ≤ size
IsWithin Comment size = Unit {0}
IsWithin (Whole kind n) size = (0 < n) × (n ≤ size)

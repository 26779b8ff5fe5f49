-- The order of lines.
use Rattle.std.specs.Prelude.{ℕ, ◌<◌, ◌≤◌, List, [], ◌∷◌}
use Rattle.ir_lex.specs.Lexeme.{Lexeme}
use Rattle.ir_lex.specs.Cut.{Cut}

-- tokens that stand in the order of their lines, the first of them on this line or behind it
abbrev pub Climbs : ℕ → List Lexeme → Type 0
Climbs line [] = Unit {0}
Climbs line (t ∷ ts) = (line ≤ t.line) × Climbs t.line ts

-- items that each begin behind the line on which the one before begins, the first of them behind this line
abbrev pub Rises : ℕ → List Cut → Type 0
Rises line [] = Unit {0}
Rises line (c ∷ cs) = (line < c.line) × Rises c.line cs

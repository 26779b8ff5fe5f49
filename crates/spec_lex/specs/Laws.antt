-- That a text determines its logical lines.
use Rattle.std.specs.Prelude.{◌≡◌, ℕ, List}
use Rattle.spec_lex.specs.Lines.{Line, AreLinesOf}

-- there are some, and there are no others
abbrev pub HasOneReading : Type 0
HasOneReading = (text : List ℕ) → (ls : List Line) × AreLinesOf text ls × ((others : List Line) → AreLinesOf text others → others ≡ ls)

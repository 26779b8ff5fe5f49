-- That words are read as they spell, and spell at most one expression.
use Rattle.std.specs.Prelude.{◌≡◌, ℕ, ◌<◌, true, Some, List, ◌++◌, length}
use Rattle.spec_ast.specs.Raw.{Tree}
use Rattle.spec_expr.specs.Words.{Text}
use Rattle.spec_expr.specs.Spelling.{SpellsExpr}
use Rattle.spec_expr.specs.Grown.{Grown, limited}
use Rattle.spec_expr.specs.Reading.{expr_at, is_free}

-- what is read is spelled there
abbrev pub ReadsWhatIsSpelled : Type 0
ReadsWhatIsSpelled = (most n : ℕ) (ts : List Text) (g : Grown Tree) (rest : List Text) → expr_at most n ts ≡ Some (g, rest) →
    (e : Tree) × (front : List Text) × SpellsExpr e front × (ts ≡ front ++ rest) × (g ≡ limited most e)

-- what is spelled is read there, before words that do not go on with it
abbrev pub ReadsAllThatIsSpelled : Type 0
ReadsAllThatIsSpelled = (most n : ℕ) (e : Tree) (front rest : List Text) → SpellsExpr e front → length front < n → is_free 7 rest ≡ true →
    expr_at most n (front ++ rest) ≡ Some (limited most e, rest)

abbrev pub SpellsOneExpression : Type 0
SpellsOneExpression = (e f : Tree) (ts : List Text) → SpellsExpr e ts → SpellsExpr f ts → e ≡ f

-- Words spell at most one expression: both are read there, built up to the depth of the deeper one.
use Rattle.std.proofs.Common.{◌≡◌, ℕ, suc, ◌+◌, ◌≤◌, List, [], length, refl, ap, sym, ◌∙◌, append-nil, arith}
use Rattle.std.specs.Prelude.{Some}
use Rattle.std.proofs.lemmas.Bool.{le-leb}
use Rattle.spec_ast.specs.Raw.{Tree}
use Rattle.spec_ast.specs.Depth.{depth}
use Rattle.spec_expr.specs.Words.{Text}
use Rattle.spec_expr.specs.Spelling.{SpellsExpr}
use Rattle.spec_expr.specs.Grown.{built, limited}
use Rattle.spec_expr.specs.Reading.{expr_at}
use Rattle.spec_expr.proofs.Parts.{same}
use Rattle.spec_expr.proofs.LevelComplete.{expr_complete}

pub kept : (most : ℕ) (e : Tree) → depth e ≤ most → limited most e ≡ built e (depth e)
kept most e h = rw (le-leb (depth e) most h) refl

built_is : (e f : Tree) (m n : ℕ) → built e m ≡ built f n → e ≡ f
built_is e f m n h = cc

read_whole : (most : ℕ) (e : Tree) (ts : List Text) → SpellsExpr e ts → expr_at most (suc (length ts)) ts ≡ Some (limited most e, [])
read_whole most e ts spelled = ap (expr_at most (suc (length ts))) (sym (append-nil ts)) ∙ expr_complete most (suc (length ts)) e ts [] spelled (omega arith) refl

pub one_tree : (e f : Tree) (ts : List Text) → SpellsExpr e ts → SpellsExpr f ts → e ≡ f
one_tree e f ts first second =
    let most : ℕ = depth e + depth f in
    let both = same (limited most e) (limited most f) [] [] (sym (read_whole most e ts first) ∙ read_whole most f ts second) in
    built_is e f (depth e) (depth f) (sym (kept most e (omega arith)) ∙ both.value ∙ kept most f (omega arith))

-- Two trees, as deep as the deeper one.
use Rattle.std.specs.Prelude.{ℕ, max}
use Rattle.spec_ast.specs.Raw.{Tree}
use Rattle.spec_ast.specs.View.{view_expr}
use Rattle.spec_ast.specs.declared.raw.RawExpr.{RawExpr}
use Rattle.spec_expr.specs.Grown.{Grown, join}

abbrev pub two_trees : Tree → Tree → Tree × Tree
two_trees x y = (x, y)

abbrev pub view_pair : RawExpr × RawExpr → Tree × Tree
view_pair p = (view_expr p.0, view_expr p.1)

abbrev pub grown_pair : ℕ → Grown Tree → Grown Tree → Grown (Tree × Tree)
grown_pair most a b = join most (λ x y. (x, y)) max a b

use Rattle.spec_tree.specs.View.{view_expr}
use Rattle.hk_symexpr.specs.Scope.{scope_of}
use Rattle.hk_symexpr.proofs.Leaves.{bound_most, known_most_kept}
use Rattle.hk_symexpr.proofs.leaf.most_of.Goals as goal

pub returns-in-Some : goal.returns-in-Some
returns-in-Some c =
    λ source d old keeps names h v env suits.
    bound_most source d old c.args.t.now (scope_of c.args.names.now) c.args.a (view_expr c.args.e.now) c.in-Some.found.0 c.in-Some.found.1 c.variable_most.result c.in-Some.ensures c.variable_most.ensures h v env suits

pub returns-in-None : goal.returns-in-None
returns-in-None c =
    λ source d old keeps names h v env suits.
    c.term_most.ensures v (known_most_kept source d old c.args.t.now (scope_of c.args.names.now) keeps names v env suits)

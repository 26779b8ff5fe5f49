use Rattle.hk_symexpr.specs.Scope.{scope_of}
use Rattle.hk_symexpr.proofs.Joins.{implied_is, truth_small}
use Rattle.hk_symexpr.proofs.join.implied.Goals as goal

pub returns-clause-term : goal.returns-clause-term
returns-clause-term c =
    λ base d old e f te tf.
    implied_is base _ old (scope_of c.args.names.now) c.args.t.now c.binary.new.t c.args.a c.args.b c.in_ok-made.made e f te tf
    (truth_small c.args.t.now c.args.a c.sized-a.result c.sized-a.ensures.width c.requires.truth c.sized-a.ensures.below)
    c.in_ok-made.ensures.within c.in_ok-made.ensures.width c.in_ok-made.ensures.value

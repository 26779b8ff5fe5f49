use Rattle.hk_symexpr.specs.Scope.{scope_of}
use Rattle.hk_symexpr.proofs.Joins.{choice_is, truth_small}
use Rattle.hk_symexpr.proofs.join.choice.Goals as goal

pub returns-clause-term : goal.returns-clause-term
returns-clause-term c =
    λ base d old e f g te ta tb.
    choice_is base _ old (scope_of c.args.names.now) c.args.t.now c.choose.new.t c.args.test c.args.a c.args.b c.in_ok-made.made e f g te ta tb
    (truth_small c.args.t.now c.args.test c.sized-test.result c.sized-test.ensures.width c.requires.truth c.sized-test.ensures.below)
    c.in_ok-made.ensures.within c.in_ok-made.ensures.width c.in_ok-made.ensures.value

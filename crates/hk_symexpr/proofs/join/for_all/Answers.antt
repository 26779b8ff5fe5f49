use Rattle.hk_symexpr.specs.Scope.{scope_of}
use Rattle.hk_symexpr.proofs.Joins.{for_all_is}
use Rattle.hk_symexpr.proofs.join.for_all.Goals as goal

pub returns-clause-term : goal.returns-clause-term
returns-clause-term c =
    λ base d old e h.
    for_all_is base _ old (scope_of c.args.names.now) c.args.t.now c.every.new.t c.args.body c.in_ok-made.made c.next_id.result c.args.sizes.now e c.requires.keys c.next_id.ensures c.every.ensures.small
    c.in_ok-made.ensures.within c.in_ok-made.ensures.width c.in_ok-made.ensures.value h

use Rattle.std.proofs.Common.{◌≡◌, ◌+◌, ◌-◌, ◌*◌, ◌^◌, ◌≤◌, true, nat_eq, length}
use Rattle.hk_term.specs.Meaning.{reading_of, with_var, value, every_below, every_tuple}
use Rattle.hk_term.specs.Walk.{scoped, IsTimed, Keeps, Standing, weight}
use Rattle.hk_term.proofs.walk.+walk.Given as goal

abbrev pub decreases-compute : goal.decreases-compute
decreases-compute l = l.t * 2 ^ 64 + 4

abbrev pub decreases-advance : goal.decreases-advance
decreases-advance l = l.at * 2 ^ 64 + 3

abbrev pub decreases-number_of : goal.decreases-number_of
decreases-number_of l = l.at * 2 ^ 64 + 2

abbrev pub decreases-every : goal.decreases-every
decreases-every l = l.body * 2 ^ 64 + 5 + length l.bound.now

abbrev pub invariant-compute-going : goal.invariant-compute-going
invariant-compute-going l =
    (Standing l.context.terms.now (scoped (reading_of l.context.v.now) l.context.scope.now) l.context.stamp l.t l.values l.marks l.clock l.at)
    × (Keeps (l.t + 1) (l.context.stamp - 1) l.fn.values l.fn.marks l.values l.marks)

abbrev pub decreases-compute-going : goal.decreases-compute-going
decreases-compute-going l = weight l.context.stamp l.marks * (l.t + 1) + l.at

abbrev pub invariant-every-loop-k : goal.invariant-every-loop-k
invariant-every-loop-k l =
    (every_below l.k (λ j. every_tuple l.rest (λ u. nat_eq (value l.context.terms.now l.body u) 1) (with_var (scoped (reading_of l.context.v.now) l.context.scope.now) l.first.id j)) ≡ true)
    × (Keeps (l.body + 1) l.context.stamp l.fn.values l.fn.marks l.values l.marks)
    × (IsTimed l.marks l.clock)
    × (l.context.stamp ≤ l.clock)

use Rattle.std.proofs.Common.{◌≤◌, length, refl, arith}
use Rattle.hk_oblig.proofs.UniformLaws.{at_end, goal_fits}
use Rattle.hk_oblig.proofs.uniform.is_uniform.Goals as goal

pub returns-clause-uniform : goal.returns-clause-uniform
returns-clause-uniform c =
    let ns = c.args.terms.now in
    let all : length ns ≤ c.each.place = omega (arith, c.each-test.false, c.len-place-end.ensures.len) in
    ((λ e. at_end ns c.each.place c.each.variables c.each.arrays all c.each.invariant), (λ u. refl))

pub returns-clause-goals : goal.returns-clause-goals
returns-clause-goals c = λ e goal one.
    let ns = c.args.terms.now in
    let all : length ns ≤ c.each.place = omega (arith, c.each-test.false, c.len-place-end.ensures.len) in
    goal_fits ns goal (at_end ns c.each.place c.each.variables c.each.arrays all c.each.invariant) one

use Rattle.std.proofs.Common.{◌-◌, length, sym, subst}
use Rattle.hk_lrat.specs.Raised.{IsLonger}
use Rattle.hk_cdcl.specs.Held.{Held}
use Rattle.hk_cdcl.proofs.Rounding.{held-count, grown-solver}
use Rattle.hk_cdcl.proofs.solver.Solver.grow.Goals as goal

pub grow_search-requires-clause-count : goal.grow_search-requires-clause-count
grow_search-requires-clause-count c = held-count c.self.inside c.self.invariant

pub invariant_of-self-2 : goal.invariant_of-self-2
invariant_of-self-2 c =
    grown-solver c.self.inside (record c.self.inside { given = c.len-self-inside.result; search = c.grow_search.new.search; watched = c.expect.new.self }) c.args.list.now c.self.invariant c.len-self-inside.ensures.value
    (subst (λ (h : Held). IsLonger h.list c.args.list.now (length c.args.list.now.clauses - length h.list.clauses)) (sym c.self.view_is) c.requires)
    c.in_ok-grow_search.ensures.clauses c.in_ok-grow_search.ensures.log

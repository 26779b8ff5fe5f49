use Rattle.std.proofs.Common.{◌≡◌, length, drop}
use Rattle.spec_strays.specs.Search.{state_of, all_met}
use Rattle.spec_strays.proofs.search.Search.meet_all.Given as goal

abbrev pub invariant-each : goal.invariant-each
invariant-each l =
    (length l.self.marks.items ≡ length l.fn.self.marks.items)
    × (all_met (state_of l.self) (drop l.node-index l.nodes) ≡ all_met (state_of l.fn.self) l.nodes)

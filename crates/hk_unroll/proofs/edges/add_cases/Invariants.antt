use Rattle.std.proofs.Common.{◌≡◌, ◌++◌, map, drop}
use Rattle.ir_check.specs.Graphs.{places_among}
use Rattle.hk_unroll.proofs.edges.add_cases.Given as goal

abbrev pub invariant-loop-case : goal.invariant-loop-case
invariant-loop-case l =
    l.places.items ++ places_among l.index (map (λ c. c.1) (drop l.case-index l.cases))
    ≡ l.initial.places.items ++ places_among l.index (map (λ c. c.1) l.cases)

use Rattle.std.proofs.Common.{◌≤◌, List}
use Rattle.hk_term.specs.Meaning.{Reading, value}
use Rattle.hk_term.specs.declared.node.Node.{Node}
use Rattle.hk_symexpr.specs.Naming.{AreLimited}
use Rattle.hk_symexpr.proofs.leaf.known_most.Given as goal

abbrev pub invariant-loop-limit : goal.invariant-loop-limit
invariant-loop-limit l = (nodes : List Node) (v : Reading) → AreLimited nodes l.known v → value nodes l.a v ≤ l.most → value nodes l.a v ≤ l.found

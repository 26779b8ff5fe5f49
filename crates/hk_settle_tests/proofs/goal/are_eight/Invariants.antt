use Rattle.std.proofs.Common.{◌≡◌, ◌<◌, ℕ, true, Some}
use Rattle.std.specs.Prelude.{slice_get}
use Rattle.hk_term.specs.declared.node.Node.{Node}
use Rattle.hk_copy.specs.Reach.{passes}
use Rattle.hk_settle_tests.specs.Eights.{eights}
use Rattle.hk_settle_tests.proofs.goal.are_eight.Given as goal

abbrev pub invariant-nodes : goal.invariant-nodes
invariant-nodes l = (k : ℕ) (n : Node) → k < l.place → slice_get l.terms k ≡ Some n → passes eights n ≡ true

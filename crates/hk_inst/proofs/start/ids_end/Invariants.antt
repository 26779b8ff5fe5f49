use Rattle.std.proofs.Common.{◌≡◌, ℕ, ◌<◌, true, Some}
use Rattle.std.specs.Prelude.{slice_get}
use Rattle.hk_term.specs.declared.node.Node.{Node}
use Rattle.hk_copy.specs.Reach.{passes}
use Rattle.hk_inst.specs.Growing.{ids_below}
use Rattle.hk_inst.proofs.start.ids_end.Given as goal

abbrev pub invariant-loop-k : goal.invariant-loop-k
invariant-loop-k l = (j : ℕ) (n : Node) → j < l.k → slice_get l.terms j ≡ Some n → passes (ids_below l.end) n ≡ true

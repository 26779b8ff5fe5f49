use Rattle.std.proofs.Common.{◌≡◌, ◌*◌, drop}
use Rattle.spec_tree.specs.Sorted.{product}
use Rattle.spec_value.proofs.tuples.count.Given as goal

-- what is left multiplies to what all does
abbrev pub invariant-each : goal.invariant-each
invariant-each l = l.all * product (drop l.size-index l.sizes) ≡ product l.sizes

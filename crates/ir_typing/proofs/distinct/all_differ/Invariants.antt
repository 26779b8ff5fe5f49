use Rattle.std.proofs.Common.{◌≡◌, drop}
use Rattle.std.specs.Ordering.{nat_cmp}
use Rattle.std.specs.BTreeSet.{contains}
use Rattle.ir_typing.specs.Fits as definition
use Rattle.ir_typing.specs.Twice.{all_new}
use Rattle.ir_typing.proofs.distinct.all_differ.Given as goal

abbrev pub invariant-each : goal.invariant-each
invariant-each l = all_new (contains nat_cmp l.seen) (drop l.number-index l.numbers) ≡ definition.all_differ l.numbers

use Rattle.std.proofs.Common.{◌≡◌, ◌++◌, map}
use Rattle.std.specs.List.{range_with_len}
use Rattle.hk_case.specs.declared.Obligation.TheVariants.{Invariant}
use Rattle.hk_case.proofs.owed.add_invariants.Given as goal

abbrev pub invariant-loop-place : goal.invariant-loop-place
invariant-loop-place l = l.list.items ≡ l.initial.list.items ++ map Invariant (range_with_len 0 l.place)

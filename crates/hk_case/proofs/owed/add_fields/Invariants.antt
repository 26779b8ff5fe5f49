use Rattle.std.proofs.Common.{◌≡◌, ◌++◌, map}
use Rattle.std.specs.List.{range_with_len}
use Rattle.hk_case.specs.declared.Obligation.TheVariants.{State}
use Rattle.hk_case.proofs.owed.add_fields.Given as goal

abbrev pub invariant-loop-place : goal.invariant-loop-place
invariant-loop-place l = l.list.items ≡ l.initial.list.items ++ map State (range_with_len 0 l.place)

use Rattle.std.proofs.Common.{◌≤◌, length}
use Rattle.ir_typing_tests.proofs.letters.with_levels.Given as goal

abbrev pub invariant-loop-level : goal.invariant-loop-level
invariant-loop-level l = length l.types ≤ l.level

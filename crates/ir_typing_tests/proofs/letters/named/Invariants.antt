use Rattle.std.proofs.Common.{◌≤◌, length}
use Rattle.ir_typing_tests.proofs.letters.named.Given as goal

abbrev pub invariant-loop-name : goal.invariant-loop-name
invariant-loop-name l = length l.types ≤ l.name-index

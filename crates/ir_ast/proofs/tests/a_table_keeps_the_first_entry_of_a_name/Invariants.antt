use Rattle.std.proofs.Common.{◌≤◌, length}
use Rattle.ir_ast.proofs.tests.a_table_keeps_the_first_entry_of_a_name.Given as goal

-- each turn adds one entry at most
abbrev pub invariant-loop-name : goal.invariant-loop-name
invariant-loop-name g l = length l.types ≤ l.name-index

use Rattle.std.proofs.Common.{◌≡◌, drop}
use Rattle.ir_whole.specs.Kept.{row_facts, no_facts, facts_of}
use Rattle.ir_whole.proofs.node.row_facts.Given as goal

abbrev pub invariant-each : goal.invariant-each
invariant-each l = row_facts (facts_of l.nodes) l.all (drop l.part-index l.row) ≡ row_facts (facts_of l.nodes) no_facts l.row

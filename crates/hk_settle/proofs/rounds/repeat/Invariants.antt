use Rattle.std.proofs.Common.{◌≡◌, ◌+◌, ◌≤◌, length}
use Rattle.hk_term.specs.Meaning.{Reading, value}
use Rattle.hk_settle.specs.Answers.{clauses_of}
use Rattle.hk_settle.proofs.rounds.repeat.Given as goal

abbrev pub invariant-more : goal.invariant-more
invariant-more l = record {
  list : l.solver.list ≡ clauses_of l.question;
  goal : (v : Reading) → value l.question.nodes l.question.goal v ≡ value l.initial.question.nodes l.initial.question.goal v;
  each : length l.initial.question.instances + l.before ≤ length l.question.instances;
}

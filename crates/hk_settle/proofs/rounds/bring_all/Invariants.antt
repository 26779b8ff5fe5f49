use Rattle.std.proofs.Common.{◌≡◌, ◌<◌, length}
use Rattle.hk_term.specs.Meaning.{Reading, value}
use Rattle.hk_inst.specs.Adding.{Lengthened}
use Rattle.hk_settle.proofs.rounds.bring_all.Given as goal

abbrev pub invariant-loop-instance : goal.invariant-loop-instance
invariant-loop-instance l = record {
  front : Lengthened l.initial.question l.question;
  goal : (v : Reading) → value l.question.nodes l.question.goal v ≡ value l.initial.question.nodes l.initial.question.goal v;
  first : l.instance-index ≡ 0 → l.question ≡ l.initial.question;
  more : 0 < l.instance-index → length l.initial.question.instances < length l.question.instances;
}

use Rattle.std.proofs.Common.{◌≡◌}
use Rattle.hk_term.specs.Meaning.{Reading, value}
use Rattle.hk_inst.specs.Adding.{Lengthened}
use Rattle.hk_settle.proofs.beside.offer_all.Given as goal

abbrev pub invariant-loop-instance : goal.invariant-loop-instance
invariant-loop-instance l = record {
  front : Lengthened l.initial.question l.question;
  goal : (v : Reading) → value l.question.nodes l.question.goal v ≡ value l.initial.question.nodes l.initial.question.goal v;
}

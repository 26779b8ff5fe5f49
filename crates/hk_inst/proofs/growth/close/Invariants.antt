use Rattle.std.proofs.Common.{◌≡◌, List}
use Rattle.hk_term.specs.Shape.{Grows}
use Rattle.hk_term.specs.declared.node.Node.{Node}
use Rattle.hk_inst.specs.Questions.{Asked}
use Rattle.hk_inst.specs.Adding.{Lengthened}
use Rattle.hk_inst.specs.Growing.{IsGrowing}
use Rattle.hk_inst.specs.States.{asked_of}
use Rattle.hk_inst.proofs.growth.close.Given as goal

abbrev pub invariant-loop-done : goal.invariant-loop-done
invariant-loop-done l = record {
  growing : IsGrowing (asked_of l.s) l.s.first l.s.next l.done;
  goal : l.s.goal ≡ l.initial.s.goal;
  grows : (front : List Node) → Grows front l.initial.s.terms → Grows front l.s.terms;
  instances : l.s.instances ≡ l.initial.s.instances;
  reads : l.s.reads.items ≡ l.initial.s.reads.items;
  quantifiers : l.s.quantifiers.items ≡ l.initial.s.quantifiers.items;
  first : l.s.first ≡ l.initial.s.first;
  front : (q : Asked) → Lengthened q (asked_of l.initial.s) → Lengthened q (asked_of l.s);
}

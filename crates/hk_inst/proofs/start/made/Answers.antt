use Rattle.std.proofs.Common.{arith, ◌∙◌, sym, subst, length}
use Rattle.hk_term.specs.Shape.{Grows}
use Rattle.hk_copy.proofs.StepLaws.{grows-refl}
use Rattle.hk_inst.specs.States.{asked_of}
use Rattle.hk_inst.specs.Left.{AreOnce}
use Rattle.hk_inst.proofs.QuestionFacts.{known-within}
use Rattle.hk_inst.proofs.Beginning.{with_numbers, numbered-growing, first-step, reads-numbered, quantifiers-numbered}
use Rattle.hk_inst.proofs.start.made.Goals as goal

pub numbered-requires : goal.numbered-requires
numbered-requires c = record { start = omega arith; there = known-within c.close.new.s.terms c.close.new.s.gates c.close.new.s.bits c.in_ok-close.ensures.growing.base.blasted }

pub numbered-requires-2 : goal.numbered-requires-2
numbered-requires-2 c = record { start = omega arith; there = known-within c.close.new.s.terms c.close.new.s.gates c.close.new.s.bits c.in_ok-close.ensures.growing.base.blasted }

pub returns-clause-kept : goal.returns-clause-kept
returns-clause-kept c =
    let none = c.in_ok-close.ensures.instances ∙ c.in_ok-state.ensures.instances in
    record {
      growing = numbered-growing (asked_of c.close.new.s) c.close.new.s.first c.close.new.s.next (length c.close.new.s.bits) c.in_ok-reads.reads.items c.in_ok-quantifiers.quantifiers.items none c.in_ok-close.ensures.growing;
      stepped = first-step (with_numbers (asked_of c.close.new.s) c.in_ok-reads.reads.items c.in_ok-quantifiers.quantifiers.items) none
          (reads-numbered c.close.new.s.terms c.close.new.s.bits c.in_ok-reads.reads.items c.in_ok-reads.ensures) (quantifiers-numbered c.close.new.s.terms c.close.new.s.bits c.in_ok-quantifiers.quantifiers.items c.in_ok-quantifiers.ensures);
      once = subst AreOnce (sym none) tt;
    }

pub returns-clause-terms : goal.returns-clause-terms
returns-clause-terms c = c.in_ok-close.ensures.grows c.args.terms (subst (Grows c.args.terms) (sym c.in_ok-state.ensures.terms) (grows-refl c.args.terms))

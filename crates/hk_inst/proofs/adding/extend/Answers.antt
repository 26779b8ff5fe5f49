use Rattle.std.proofs.Common.{◌++◌, ◌∙◌, ap, sym, subst}
use Rattle.hk_inst.specs.States.{asked_of}
use Rattle.hk_inst.proofs.QuestionFacts.{known-within}
use Rattle.hk_inst.proofs.Beginning.{reads-numbered, quantifiers-numbered}
use Rattle.hk_inst.proofs.Lengthening.{lengthened-refl, longer-refl, nothing-more, beside, longer-length}
use Rattle.hk_inst.proofs.AddedSteps.{kept-more}
use Rattle.hk_inst.specs.Left.{AreOnce}
use Rattle.hk_inst.proofs.SameOnes.{once-push}
use Rattle.hk_inst.proofs.adding.extend.Goals as goal

pub numbered-requires-clause-start : goal.numbered-requires-clause-start
numbered-requires-clause-start c =
    longer-length c.args.s.now.bits c.close.new.s.bits c.len-start.result (c.close.ensures.front (asked_of c.args.s.now) (c.bring.ensures.front (asked_of c.args.s.now) (lengthened-refl (asked_of c.args.s.now)))).words c.len-start.ensures

pub numbered-requires-clause-there : goal.numbered-requires-clause-there
numbered-requires-clause-there c = known-within c.close.new.s.terms c.close.new.s.gates c.close.new.s.bits c.in_ok-close.ensures.growing.base.blasted

pub numbered-requires-2-clause-start : goal.numbered-requires-2-clause-start
numbered-requires-2-clause-start c =
    longer-length c.args.s.now.bits c.close.new.s.bits c.len-start.result (c.close.ensures.front (asked_of c.args.s.now) (c.bring.ensures.front (asked_of c.args.s.now) (lengthened-refl (asked_of c.args.s.now)))).words c.len-start.ensures

pub numbered-requires-2-clause-there : goal.numbered-requires-2-clause-there
numbered-requires-2-clause-there c = known-within c.close.new.s.terms c.close.new.s.gates c.close.new.s.bits c.in_ok-close.ensures.growing.base.blasted

pub returns-in_err-extend_from_slice-2-clause-front : goal.returns-in_err-extend_from_slice-2-clause-front
returns-in_err-extend_from_slice-2-clause-front c = λ q h.
    beside q (asked_of c.close.new.s) (c.close.ensures.front q (c.bring.ensures.front q h)) c.extend_from_slice.new.self.items c.extend_from_slice-2.new.self.items c.close.new.s.instances c.close.new.s.demands.items
    (_, c.in_ok-extend_from_slice.ensures.items) (nothing-more c.close.new.s.quantifiers.items c.extend_from_slice-2.new.self.items c.in_err-extend_from_slice-2.ensures.items) (longer-refl c.close.new.s.instances) (longer-refl c.close.new.s.demands.items)

pub returns-clause-front : goal.returns-clause-front
returns-clause-front c = λ q h.
    beside q (asked_of c.close.new.s) (c.close.ensures.front q (c.bring.ensures.front q h)) c.extend_from_slice.new.self.items c.extend_from_slice-2.new.self.items c.close.new.s.instances c.close.new.s.demands.items
    (_, c.in_ok-extend_from_slice.ensures.items) (_, c.in_ok-extend_from_slice-2.ensures.items) (longer-refl c.close.new.s.instances) (longer-refl c.close.new.s.demands.items)

pub returns-clause-kept : goal.returns-clause-kept
returns-clause-kept c =
    let k = kept-more (asked_of c.args.s.now) (asked_of c.close.new.s) c.close.new.s.first c.close.new.s.next c.args.instance c.len-start.result c.in_ok-reads.reads.items c.in_ok-quantifiers.quantifiers.items c.extend_from_slice.new.self.items c.extend_from_slice-2.new.self.items
    c.requires.kept.stepped c.requires.kept.growing.base.blasted (c.close.ensures.front (asked_of c.args.s.now) (c.bring.ensures.front (asked_of c.args.s.now) (lengthened-refl (asked_of c.args.s.now)))) c.len-start.ensures
    (c.close.ensures.reads ∙ c.bring.ensures.reads) (c.close.ensures.quantifiers ∙ c.bring.ensures.quantifiers) (c.close.ensures.instances ∙ c.in_ok-bring.ensures.instances) c.in_ok-close.ensures.growing
    (reads-numbered c.close.new.s.terms _ c.in_ok-reads.reads.items c.in_ok-reads.ensures) (quantifiers-numbered c.close.new.s.terms _ c.in_ok-quantifiers.quantifiers.items c.in_ok-quantifiers.ensures)
    (c.in_ok-extend_from_slice.ensures.items ∙ ap (λ l. c.close.new.s.reads.items ++ l) c.deref.ensures.value) (c.in_ok-extend_from_slice-2.ensures.items ∙ ap (λ l. c.close.new.s.quantifiers.items ++ l) c.deref-2.ensures.value) in
    record {
      growing = k.0;
      stepped = k.1;
      once = subst AreOnce (sym (c.close.ensures.instances ∙ c.in_ok-bring.ensures.instances)) (once-push c.args.s.now.instances c.args.instance c.requires.kept.once c.requires.fresh);
    }

use Rattle.std.proofs.Common.{◌∙◌, sym, subst}
use Rattle.hk_inst.specs.States.{asked_of}
use Rattle.hk_inst.specs.Adding.{Lengthened}
use Rattle.hk_inst.proofs.Lengthening.{lengthened-refl}
use Rattle.hk_inst.proofs.KeptQuestions.{reads-within, quantifiers-within, kept-back}
use Rattle.hk_inst.proofs.adding.add.Goals as goal

pub subject_of-requires-clause-reads : goal.subject_of-requires-clause-reads
subject_of-requires-clause-reads c = reads-within c.args.s.now c.requires.kept

pub subject_of-requires-clause-quantifiers : goal.subject_of-requires-clause-quantifiers
subject_of-requires-clause-quantifiers c = quantifiers-within c.args.s.now c.requires.kept

pub returns-in-Ok-clause-front : goal.returns-in-Ok-clause-front
returns-in-Ok-clause-front c = c.extend.ensures.front (asked_of c.args.s.now) (lengthened-refl (asked_of c.args.s.now))

pub undo-requires : goal.undo-requires
undo-requires c = record {
  before = asked_of c.args.s.now;
  next = c.args.s.now.next;
  circuit = c.sizes_of-sizes.ensures.circuit;
  front = c.extend.ensures.front (asked_of c.args.s.now) (lengthened-refl (asked_of c.args.s.now));
  sizes = c.sizes_of-sizes.ensures.sizes;
}

pub returns-clause-same : goal.returns-clause-same
returns-clause-same c = c.undo.ensures.back (asked_of c.args.s.now) c.args.s.now.next (c.extend.ensures.front (asked_of c.args.s.now) (lengthened-refl (asked_of c.args.s.now))) c.sizes_of-sizes.ensures.sizes

pub returns-clause-kept : goal.returns-clause-kept
returns-clause-kept c =
    kept-back c.args.s.now c.undo.new.s (c.undo.ensures.back (asked_of c.args.s.now) c.args.s.now.next (c.extend.ensures.front (asked_of c.args.s.now) (lengthened-refl (asked_of c.args.s.now))) c.sizes_of-sizes.ensures.sizes)
    (c.undo.ensures.first ∙ c.extend.ensures.first) (c.undo.ensures.next ∙ c.sizes_of-sizes.ensures.sizes.next_is) c.requires.kept

pub returns-clause-front : goal.returns-clause-front
returns-clause-front c =
    subst (Lengthened (asked_of c.args.s.now)) (sym (c.undo.ensures.back (asked_of c.args.s.now) c.args.s.now.next (c.extend.ensures.front (asked_of c.args.s.now) (lengthened-refl (asked_of c.args.s.now))) c.sizes_of-sizes.ensures.sizes))
    (lengthened-refl (asked_of c.args.s.now))

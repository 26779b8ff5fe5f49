use Rattle.std.proofs.Common.{sym, subst}
use Rattle.hk_copy.specs.Stands.{standing}
use Rattle.hk_copy.proofs.CopyLaws.{copies-grows}
use Rattle.hk_copy.proofs.StepLaws.{grows-refl}
use Rattle.hk_inst.specs.Demanded.{IsOpening}
use Rattle.hk_inst.specs.Questions.{wide_from}
use Rattle.hk_inst.proofs.prepare.opening_of.Goals as goal

pub returns-clause-opening : goal.returns-clause-opening
returns-clause-opening c =
    subst (λ ss. IsOpening c.choice.new.terms (record { term = c.args.term; stands = ss; copy = c.in_ok-copy.copy; demand = c.in_ok-demand.demand })) (sym c.in_ok-stands.ensures) (record {
      bound = c.args.bound.now;
      body = c.args.body;
      at = c.in_ok-demand.ensures.keeps c.args.term _ (c.in_ok-copy.ensures.keeps c.args.term _ c.requires.quantifier);
      copies = copies-grows c.body_at.new.terms c.choice.new.terms (c.in_ok-demand.ensures.grows c.body_at.new.terms (grows-refl c.body_at.new.terms)) (standing c.args.bound.now (wide_from c.args.bound.now c.args.first)) c.args.body c.in_ok-copy.copy c.in_ok-copy.ensures.copies;
      choice = c.in_ok-demand.ensures.chooses;
    })

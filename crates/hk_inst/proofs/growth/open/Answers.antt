use Rattle.std.proofs.lemmas.List.{append-nil}
use Rattle.std.proofs.Common.{◌∙◌, ◌+◌, List, [], ◌∷◌, length, arith, sym, subst}
use Rattle.hk_copy.specs.Reach.{AllPass}
use Rattle.hk_blast.proofs.LongerLists.{blasted-longer}
use Rattle.hk_inst.specs.declared.opening.Opening.{Opening}
use Rattle.hk_inst.specs.Questions.{AreVariables}
use Rattle.hk_inst.specs.Growing.{IsGrowing, ids_below}
use Rattle.hk_inst.specs.States.{asked_of}
use Rattle.hk_inst.proofs.WideStands.{wide-variables}
use Rattle.hk_cnf.proofs.FrontLaws.{IsFront-trans}
use Rattle.hk_inst.proofs.Lengthening.{longer-refl, longer-words, ahead}
use Rattle.hk_inst.proofs.StateSteps.{opened}
use Rattle.hk_inst.proofs.growth.open.Goals as goal

pub make-requires-clause-table : goal.make-requires-clause-table
make-requires-clause-table c = blasted-longer c.args.s.now.terms c.prepare.new.terms c.args.s.now.gates c.args.s.now.bits c.in_ok-opening.ensures.grows c.requires.growing.base.blasted

pub returns-clause-growing : goal.returns-clause-growing
returns-clause-growing c =
    subst (λ (os : List Opening). IsGrowing (record {
      nodes = c.prepare.new.terms;
      goal = c.args.s.now.goal;
      circuit = c.require.new.gates;
      table = record { words = c.make.new.bits; reads = c.args.s.now.reads.items; quantifiers = c.args.s.now.quantifiers.items; openings = os };
      instances = c.args.s.now.instances;
      demands = c.args.s.now.demands.items;
    }) c.args.s.now.first c.in_ok-next.next (c.args.done + 1)) (sym c.in_ok-push.ensures.items)
    (opened (asked_of c.args.s.now) c.prepare.new.terms c.in_ok-opening.ensures.grows c.make.new.gates c.require.new.gates c.make.new.bits c.args.s.now.first c.args.s.now.next c.in_ok-next.next c.args.done (c.args.term, c.requires.entry.0) c.args.bound c.args.body c.in_ok-opening.opening
    c.requires.entry.1 c.requires.node c.in_ok-opening.ensures.term
    (subst (λ n. AreVariables c.args.s.now.next n c.in_ok-opening.opening.stands) (sym c.in_ok-next.ensures)
    (subst (AreVariables c.args.s.now.next (c.args.s.now.next + length c.as_slice-bound.result.now)) (sym c.in_ok-opening.ensures.stands) (wide-variables c.as_slice-bound.result.now c.args.s.now.next)))
    c.in_ok-opening.ensures.opening (omega (arith, c.in_ok-next.ensures)) c.in_ok-opening.ensures.fit c.in_ok-opening.ensures.distinct
    (subst (λ n. AllPass (ids_below n) c.prepare.new.terms) (sym c.in_ok-next.ensures) c.in_ok-opening.ensures.adds)
    c.in_ok-make.ensures.made c.in_ok-require.ensures.requiring c.requires.growing)

pub returns-in_err-make-clause-front : goal.returns-in_err-make-clause-front
returns-in_err-make-clause-front c = λ q h.
    ahead q (asked_of c.args.s.now) h c.prepare.new.terms c.make.new.gates c.make.new.bits c.args.s.now.openings.items c.in_ok-opening.ensures.grows c.make.ensures.front (longer-words c.prepare.new.terms c.args.s.now.gates.vars c.args.s.now.bits c.make.new.bits c.make.ensures.lengthens) (longer-refl c.args.s.now.openings.items)

pub returns-in_err-require-clause-front : goal.returns-in_err-require-clause-front
returns-in_err-require-clause-front c = λ q h.
    ahead q (asked_of c.args.s.now) h c.prepare.new.terms c.require.new.gates c.make.new.bits c.args.s.now.openings.items c.in_ok-opening.ensures.grows (IsFront-trans c.args.s.now.gates c.make.new.gates c.require.new.gates c.make.ensures.front c.require.ensures.front) (longer-words c.prepare.new.terms c.args.s.now.gates.vars c.args.s.now.bits c.make.new.bits c.make.ensures.lengthens) (longer-refl c.args.s.now.openings.items)

pub returns-in_err-push-clause-front : goal.returns-in_err-push-clause-front
returns-in_err-push-clause-front c = λ q h.
    ahead q (asked_of c.args.s.now) h c.prepare.new.terms c.require.new.gates c.make.new.bits c.push.new.self.items c.in_ok-opening.ensures.grows (IsFront-trans c.args.s.now.gates c.make.new.gates c.require.new.gates c.make.ensures.front c.require.ensures.front) (longer-words c.prepare.new.terms c.args.s.now.gates.vars c.args.s.now.bits c.make.new.bits c.make.ensures.lengthens) ([], c.in_err-push.ensures.items ∙ sym (append-nil c.args.s.now.openings.items))

pub returns-clause-front : goal.returns-clause-front
returns-clause-front c = λ q h.
    ahead q (asked_of c.args.s.now) h c.prepare.new.terms c.require.new.gates c.make.new.bits c.push.new.self.items c.in_ok-opening.ensures.grows (IsFront-trans c.args.s.now.gates c.make.new.gates c.require.new.gates c.make.ensures.front c.require.ensures.front) (longer-words c.prepare.new.terms c.args.s.now.gates.vars c.args.s.now.bits c.make.new.bits c.make.ensures.lengthens) (c.in_ok-opening.opening ∷ [], c.in_ok-push.ensures.items)
